use Rattle.std.proofs.Common.{ℕ, []}
use Rattle.sp_node.specs.declared.node.Entry.{Entry}
use Rattle.sp_node.specs.Table.{depth}
use Rattle.sp_condense.specs.Staging.{at_of, IsStage}
use Rattle.sp_condense.proofs.Collapses.{Falls}
use Rattle.sp_condense.proofs.collapse.collapse.Given as goal

abbrev pub invariant-down : goal.invariant-down
invariant-down l = (e : Entry) (level : ℕ) → IsStage l.fn.tree.before e (at_of l.fn.tree) l.fn.tree.plan.root l.fn.tree.plan.next level [] → Falls e l.fn.tree level l.tree

abbrev pub decreases-down : goal.decreases-down
decreases-down l = depth (at_of l.tree) l.tree.plan.next l.tree.plan.root
