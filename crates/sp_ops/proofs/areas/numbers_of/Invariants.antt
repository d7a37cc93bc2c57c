use Rattle.std.proofs.Common.{◌≡◌, take, map}
use Rattle.sp_node.specs.Plan.{number_of}
use Rattle.sp_ops.proofs.areas.numbers_of.Given as goal

abbrev pub invariant-loop-part : goal.invariant-loop-part
invariant-loop-part l = l.numbers.items ≡ map number_of (take l.part-index l.parts)
