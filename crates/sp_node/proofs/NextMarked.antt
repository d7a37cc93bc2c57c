-- The least entry that bears a mark, by what is noted.
use Rattle.std.proofs.Common.{◌≡◌, ℕ, ◌+◌, ◌<◌, ◌≤◌, ◌^◌, Bool, true, false, List, Option, Some, None, refl, sym, ap, ◌∙◌, arith, inl, inr}
use Rattle.std.specs.Prelude.{MatchOption}
use Rattle.std.proofs.lemmas.Bool.{cases_lt}
use Rattle.sp_node.specs.declared.node.Entry.{Entry}
use Rattle.sp_node.specs.Among.{Among}
use Rattle.sp_node.specs.Index.{passes, entry_of, AreAllNoted}
use Rattle.sp_node.specs.Known.{is_known, IsNoted, AreNumbers, HasNoneFrom, IsFirstFrom}
use Rattle.sp_node.specs.Marked.{HasNoMarkFrom, IsNextMarked}
use Rattle.sp_node.specs.Marks.{is_marked}
use Rattle.sp_node.specs.Standing.{HasNoEntry, IsEntryOf}
use Rattle.sp_node.specs.Table.{Table, IsValid, entries_of}
use Rattle.sp_node.proofs.Known.{known_fits}
use Rattle.sp_node.proofs.Standing.{each_entry, entry_stands, entry_of_among}

module _ (t : Table) (v : IsValid t) (noted : List (ℕ × ℕ)) (all : AreAllNoted noted t.nodes) (txn start : ℕ) where
  -- no entry between the two numbers bears a mark
  abbrev pub NoneBelow : ℕ → Type 0
  NoneBelow at = (e : Entry) → Among e (entries_of t) → start ≤ e.number → e.number < at → is_marked txn e ≡ false

  unknown : (e : Entry) → Among e (entries_of t) → is_known noted txn e.number ≡ false → is_marked txn e ≡ false
  unknown e a k = by_test (is_marked txn e) (each_entry t v (λ x. IsNoted noted x.number x.marks) all e a txn)
    where
      by_test : (b : Bool) → (b ≡ true → is_known noted txn e.number ≡ true) → b ≡ false
      by_test true f = let yes = f refl in cc
      by_test false f = refl

  before : (at number : ℕ) → NoneBelow at → IsFirstFrom noted txn at number → NoneBelow number
  before at number none first e a le lt = elim (cases_lt e.number at) [ inl b ↦ none e a le b | inr c ↦ unknown e a (first.least e.number c lt) ]

  pub found : (at number : ℕ) → start ≤ at → NoneBelow at → IsFirstFrom noted txn at number → passes (is_marked txn) (entry_of t.nodes number) ≡ true → IsNextMarked t txn start number
  found at number le none first p = by_entry (entry_of t.nodes number) (entry_stands t v number) p
    where
      by_entry : (o : Option Entry) → MatchOption o (HasNoEntry t number) (IsEntryOf t number) → passes (is_marked txn) o ≡ true → IsNextMarked t txn start number
      by_entry None h p = cc
      by_entry (Some e) h p = record {
        entry = e;
        among = h.among;
        named = h.named;
        marked = p;
        within = let far : at ≤ number = first.within in omega arith;
        least = before at number none first;
      }

  pub passed : (at number : ℕ) → NoneBelow at → IsFirstFrom noted txn at number → passes (is_marked txn) (entry_of t.nodes number) ≡ false → NoneBelow (number + 1)
  passed at number none first p e a le lt = elim (cases_lt e.number number) [
    | inl b ↦ before at number none first e a le b
    | inr c ↦ let same : e.number ≡ number = omega arith in ap (passes (is_marked txn)) (sym (entry_of_among t v e a)) ∙ ap (λ (n : ℕ). passes (is_marked txn) (entry_of t.nodes n)) same ∙ p
  ]

  pub over : (at : ℕ) → NoneBelow at → HasNoneFrom noted txn at → HasNoMarkFrom t txn start
  over at none free e a le = elim (cases_lt e.number at) [ inl b ↦ none e a le b | inr c ↦ unknown e a (free e.number c) ]

  pub full : (at : ℕ) → NoneBelow at → 2 ^ 64 ≤ at → AreNumbers noted → HasNoMarkFrom t txn start
  full at none big fits = over at none (λ n le. by_test (is_known noted txn n) (known_fits noted txn n fits) le)
    where
      by_test : {n : ℕ} → (b : Bool) → (b ≡ true → n < 2 ^ 64) → at ≤ n → b ≡ false
      by_test true f le = absurd (omega (arith, f refl))
      by_test false f le = refl
