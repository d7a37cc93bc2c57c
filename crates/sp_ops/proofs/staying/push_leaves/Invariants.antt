use Rattle.std.proofs.Common.{◌≡◌, ◌++◌, take}
use Rattle.sp_ops.specs.Wanted.{on_leaves}
use Rattle.sp_ops.proofs.staying.push_leaves.Given as goal

abbrev pub invariant-loop-entry : goal.invariant-loop-entry
invariant-loop-entry l = l.wants.items ≡ l.fn.wants.items ++ on_leaves l.tree.table.nodes l.mode (take l.entry-index l.entries)
