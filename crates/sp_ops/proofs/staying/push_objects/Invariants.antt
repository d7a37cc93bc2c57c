use Rattle.std.proofs.Common.{◌≡◌, ◌++◌, take, map}
use Rattle.sp_ops.specs.Seen.{entries_at}
use Rattle.sp_ops.specs.Wanted.{on_object}
use Rattle.sp_ops.proofs.staying.push_objects.Given as goal

abbrev pub invariant-loop-entry : goal.invariant-loop-entry
invariant-loop-entry l = l.wants.items ≡ l.fn.wants.items ++ map on_object (entries_at l.tree.table.nodes (take l.entry-index l.entries))
