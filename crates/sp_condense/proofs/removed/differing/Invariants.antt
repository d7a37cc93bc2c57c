use Rattle.std.proofs.Common.{◌≡◌, ◌++◌, List, length}
use Rattle.sp_node.specs.declared.plan.Part.{Part}
use Rattle.sp_condense.specs.Staging.{IsSettled}
use Rattle.sp_condense.proofs.removed.differing.Given as goal

abbrev pub invariant-loop-part : goal.invariant-loop-part
invariant-loop-part l = (done : List Part) × (l.fn.parts.items ≡ l.parts.items ++ done) × IsSettled l.tree.table.nodes done l.kept

abbrev pub decreases-loop-part : goal.decreases-loop-part
decreases-loop-part l = length l.parts.items
