use Rattle.std.proofs.Common.{◌≡◌, take}
use Rattle.sp_apply.specs.Noted.{AreNoted}
use Rattle.sp_apply.proofs.marking.note_all.Given as goal

abbrev pub invariant-marks : goal.invariant-marks
invariant-marks l = record { table : l.tree.table ≡ l.fn.tree.table; noted : AreNoted l.tree.noted (take l.mark-index l.marks) }
