use Rattle.std.proofs.Common.{◌≡◌, drop}
use Rattle.sp_grow.specs.Overlay.{part_of}
use Rattle.sp_grow.proofs.planned.part_of.Given as goal

abbrev pub invariant-loop-part : goal.invariant-loop-part
invariant-loop-part l = part_of (drop l.part-index l.parts) l.number ≡ part_of l.parts l.number
