use Rattle.std.proofs.Common.{ap}
use Rattle.std.specs.Prelude.{slice_set}
use Rattle.sp_model.specs.declared.session.Session.{Session}
use Rattle.sp_state.proofs.Standing.{got_at}
use Rattle.sp_apply.proofs.InPlace.{rested_there}
use Rattle.sp_apply.proofs.keeping.rest.Goals as goal

pub returns : goal.returns
returns c x found =
    let xs = c.args.seats.now.items in
    let there = got_at xs c.args.at c.index_mut-seat.result.now c.requires.bound c.index_mut-seat.ensures.value in
    rested_there xs _ c.args.at x c.index_mut-seat.result.now c.requires.ascending there (ap (λ (z : Session). slice_set xs c.args.at z) c.rest.ensures) found
