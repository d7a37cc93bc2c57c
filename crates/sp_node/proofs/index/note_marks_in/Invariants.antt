use Rattle.std.proofs.Common.{◌≡◌, ℕ, drop, true}
use Rattle.sp_node.specs.Known.{is_known}
use Rattle.sp_node.specs.Plan.{ArePartsNoted}
use Rattle.sp_node.proofs.index.note_marks_in.Given as goal

abbrev pub invariant-back : goal.invariant-back
invariant-back l = record {
  noted : ArePartsNoted l.noted (drop l.i l.parts);
  kept : (i n : ℕ) → is_known l.fn.noted i n ≡ true → is_known l.noted i n ≡ true;
}
