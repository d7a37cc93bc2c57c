use Rattle.std.proofs.Common.{◌≡◌, drop}
use Rattle.sp_needs.specs.Areas.{first_part}
use Rattle.sp_needs.proofs.area.part_of.Given as goal

abbrev pub invariant-loop-part : goal.invariant-loop-part
invariant-loop-part l = first_part l.number (drop l.part-index l.parts) ≡ first_part l.number l.parts
