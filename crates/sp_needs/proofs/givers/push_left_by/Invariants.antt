use Rattle.std.proofs.Common.{◌≡◌, ◌++◌, take}
use Rattle.sp_needs.specs.Affected.{left_by_any}
use Rattle.sp_needs.proofs.givers.push_left_by.Given as goal

abbrev pub invariant-loop-i : goal.invariant-loop-i
invariant-loop-i l = l.found.items ≡ l.fn.found.items ++ left_by_any l.tree.table.nodes l.leaf (take l.i l.entries)
