use Rattle.std.proofs.Common.{List, refl, subst, arith}
use Rattle.sp_rect.specs.declared.record.Record.{Record}
use Rattle.sp_model.specs.Opening.{IsRebuilt}
use Rattle.sp_opening.proofs.First.{first_fits}
use Rattle.sp_opening.proofs.Rebuilt.{as_many}
use Rattle.sp_opening.proofs.opening.open_state.Goals as goal

pub returns-clause-fits : goal.returns-clause-fits
returns-clause-fits c =
    let built : IsRebuilt c.args.shape c.args.records c.in_ok-tree.tree.table = subst (λ (rs : List Record). IsRebuilt c.args.shape rs c.in_ok-tree.tree.table) c.as_slice.ensures c.in_ok-tree.ensures in
    let many = as_many c.args.shape c.args.records c.in_ok-tree.tree.table c.requires.shape c.requires.ordered c.requires.few built in
    let room = c.in_ok-dead.ensures.capacity in
    let all = c.len.ensures.len in
    first_fits _ c.new-2.ensures.items c.new-5.ensures.commits refl refl (omega (arith, many, room, all)) tt
