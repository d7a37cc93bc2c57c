use Rattle.std.proofs.Common.{◌≡◌, ℕ, drop, true}
use Rattle.sp_node.specs.Known.{is_known, AreMarksNoted}
use Rattle.sp_node.proofs.index.note_marks_of.Given as goal

abbrev pub invariant-back : goal.invariant-back
invariant-back l = record {
  noted : AreMarksNoted l.noted (drop l.i l.entries);
  kept : (i n : ℕ) → is_known l.fn.noted i n ≡ true → is_known l.noted i n ≡ true;
}
