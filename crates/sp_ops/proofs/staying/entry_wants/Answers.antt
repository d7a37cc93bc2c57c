use Rattle.std.proofs.Common.{◌≡◌, List, ◌++◌, sym, ap, ◌∙◌, subst}
use Rattle.sp_locks.specs.declared.mode.Mode.TheVariants.{IX}
use Rattle.sp_node.specs.Table.{entries_of}
use Rattle.sp_granule.specs.Granules.{granules}
use Rattle.sp_protection.specs.Needs.{StayWant}
use Rattle.sp_ops.specs.declared.wants.Want.{Want}
use Rattle.sp_ops.specs.Wanted.{AreWants, on_leaves}
use Rattle.sp_ops.proofs.Reasons.{marks_one}
use Rattle.sp_ops.proofs.staying.entry_wants.Goals as goal

pub returns : goal.returns
returns c = λ id marks.
    let nodes = c.args.tree.now.table.nodes in
    let is : c.push_leaves.new.wants.items ≡ on_leaves nodes IX c.in_ok-entries.entries =
    c.in_ok-push_leaves.ensures ∙ ap (λ (ws : List Want). ws ++ on_leaves nodes IX c.as_slice.result.now) c.new-wants.ensures.items ∙ ap (on_leaves nodes IX) c.as_slice.ensures in
    subst (AreWants (StayWant (granules c.args.tree.now.table) (entries_of c.args.tree.now.table) c.args.txn c.args.op.now)) (sym is) (marks_one c.args.tree.now.table c.args.txn c.root-valid.ensures.valid c.args.op.now id marks c.in_ok-entries.entries c.in_ok-entries.ensures.found)
