use Rattle.std.proofs.Common.{◌≡◌, length}
use Rattle.sp_apply.specs.Noted.{AreNoted}
use Rattle.sp_apply.proofs.EachMark.{marked_each}
use Rattle.sp_apply.proofs.marking.mark_all.Given as goal

abbrev pub invariant-marks : goal.invariant-marks
invariant-marks l = record { table : marked_each l.marks.items l.tree.table ≡ marked_each l.initial.marks.items l.initial.tree.table; noted : AreNoted l.tree.noted l.marks.items }

abbrev pub decreases-marks : goal.decreases-marks
decreases-marks l = length l.marks.items
