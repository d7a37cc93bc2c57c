use Rattle.std.proofs.Common.{ap}
use Rattle.std.specs.Prelude.{slice_set}
use Rattle.sp_model.specs.declared.session.Session.{Session}
use Rattle.sp_state.proofs.Standing.{got_at}
use Rattle.sp_apply.proofs.InPlace.{kept_there, on_ok, no_area}
use Rattle.sp_apply.proofs.keeping.keep.Goals as goal

pub returns-clause-ok : goal.returns-clause-ok
returns-clause-ok c =
    let xs = c.args.seats.now.items in
    let there = got_at xs c.args.at c.index_mut-seat.result.now c.requires.bound c.index_mut-seat.ensures.value in
    on_ok _ _ c.keep.result (λ is x op left found planned. kept_there xs _ c.args.at x c.index_mut-seat.result.now op left c.args.reply c.requires.ascending there (ap (λ (z : Session). slice_set xs c.args.at z) is) found planned) c.keep.ensures.ok

pub returns-clause-sure : goal.returns-clause-sure
returns-clause-sure c x op left found planned none =
    let xs = c.args.seats.now.items in
    let there = got_at xs c.args.at c.index_mut-seat.result.now c.requires.bound c.index_mut-seat.ensures.value in
    c.keep.ensures.sure (no_area xs c.args.at x c.index_mut-seat.result.now op left there found planned none)
