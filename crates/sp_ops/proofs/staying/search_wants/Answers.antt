use Rattle.std.proofs.Common.{◌≡◌, List, ◌++◌, map, sym, ap, ◌∙◌, subst}
use Rattle.sp_locks.specs.declared.mode.Mode.TheVariants.{S}
use Rattle.sp_rect.specs.declared.operation.Op.TheVariants.{Find}
use Rattle.sp_node.specs.Table.{entries_of}
use Rattle.sp_granule.specs.Granules.{granules}
use Rattle.sp_protection.specs.Needs.{StayWant}
use Rattle.sp_ops.specs.declared.wants.Want.{Want}
use Rattle.sp_ops.specs.Wanted.{AreWants, on_granule}
use Rattle.sp_ops.proofs.Reasons.{search_wants}
use Rattle.sp_ops.proofs.staying.search_wants.Goals as goal

pub returns : goal.returns
returns c = λ txn.
    let numbers = c.in_ok-met.met in
    let is : c.push_granules.new.wants.items ≡ map (on_granule S) numbers =
    c.in_ok-push_granules.ensures ∙ ap (λ (ws : List Want). ws ++ map (on_granule S) c.as_slice.result.now) c.new-wants.ensures.items ∙ ap (map (on_granule S)) c.as_slice.ensures in
    subst (AreWants (StayWant (granules c.args.tree.now.table) (entries_of c.args.tree.now.table) txn (Find c.args.rect.now))) (sym is) (search_wants c.args.tree.now.table txn c.args.rect.now numbers c.in_ok-met.ensures.exact)
