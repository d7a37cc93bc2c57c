use Rattle.std.proofs.Common.{◌≡◌, false, take}
use Rattle.sp_node.specs.Index.{has_number}
use Rattle.sp_node.proofs.node.place_of.Given as goal

abbrev pub invariant-loop-i : goal.invariant-loop-i
invariant-loop-i l = has_number (take l.i l.entries) l.number ≡ false
