use Rattle.std.proofs.Common.{◌≡◌, ℕ, drop, true}
use Rattle.sp_node.specs.Known.{is_known, AreKnown}
use Rattle.sp_node.proofs.index.note_ids_of.Given as goal

abbrev pub invariant-back : goal.invariant-back
invariant-back l = record {
  noted : AreKnown l.ids (drop l.i l.entries);
  kept : (i n : ℕ) → is_known l.fn.ids i n ≡ true → is_known l.ids i n ≡ true;
}
