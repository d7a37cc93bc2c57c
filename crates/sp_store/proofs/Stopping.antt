-- What a stop leaves of two files, from their choice to the start of a kernel.
use Rattle.std.proofs.Common.{◌≡◌, ◌⊎◌, inl, inr, ◌+◌, ◌<◌, ◌≤◌, ℕ, Bool, true, false, not, if◌then◌else◌, IsTrue, List, refl, sym, ◌∙◌, subst, arith}
use Rattle.std.specs.Prelude.{◌↔◌}
use Rattle.std.proofs.lemmas.Bool.{cases_lt}
use Rattle.sp_disk.specs.Moments.{LeavesOnly}
use Rattle.sp_journal.specs.declared.types.Recovered.{Recovered}
use Rattle.sp_journal.specs.Kinds.{KeepsKind}
use Rattle.sp_journal.specs.Looking.{OnlyReads}
use Rattle.sp_journal.specs.Opening.{Opens, refused, synced, RecoversAs}
use Rattle.sp_journal.specs.Recovery.{Outcome, Foreign, Damaged, Holds}
use Rattle.sp_pair.specs.Compacting.{first_of, second_of, IsAtRest, HoldAsBefore, Keeps}
use Rattle.sp_pair.specs.Pairs.{IsChosen}
use Rattle.sp_pair.specs.Settling.{IsSettled}
use Rattle.sp_pair.proofs.Roles.{from_roles}
use Rattle.sp_store.specs.Files.{current_of}
use Rattle.sp_store.specs.Stopping.{HoldSame, SinceOpened, SinceChosen, IsTurned}
use Rattle.sp_store.proofs.Keeping.{kept_recovers}

held_still : (main alt : List ℕ) → HoldSame main alt main alt
held_still main alt = record { records = λ found is. (found, is, refl); damage = λ at is. is }

held_on : (m a m' a' m'' a'' : List ℕ) → HoldSame m a m' a' → HoldSame m' a' m'' a'' → HoldSame m a m'' a''
held_on m a m' a' m'' a'' p q = record {
  records = λ found is. let x = p.records found is in let y = q.records x.0 x.1 in (y.0, y.1, y.2 ∙ x.2);
  damage = λ at is. q.damage at (p.damage at is);
}

-- equal files hold the same
held_equal : (m a m' a' : List ℕ) → m' ≡ m → a' ≡ a → HoldSame m a m' a'
held_equal m a m' a' one two = subst (λ (x : List ℕ). HoldSame m a x a') (sym one) (subst (λ (x : List ℕ). HoldSame m a m x) (sym two) (held_still m a))

not_foreign : (found : Recovered) → Holds found ≡ Foreign → ⊥
not_foreign found e = cc

not_either : (at : ℕ) → Damaged at ≡ Foreign → ⊥
not_either at e = cc

-- a file that is recovered as the current one and keeps its kind holds the same beside the other
held_kept : (b : Bool) (v g : ℕ) (c file o : List ℕ) → IsChosen (first_of b c o) (second_of b c o) b v g → KeepsKind c file → RecoversAs c file → HoldSame (first_of b c o) (second_of b c o) (first_of b file o) (second_of b file o)
held_kept b v g c file o chosen keeps recovers = record {
  records = λ found is. (found, kept_recovers b v g c file o (Holds found) chosen keeps (recovers (Holds found) (from_roles b v g c o chosen (Holds found) (not_foreign found) is)), refl);
  damage = λ at is. kept_recovers b v g c file o (Damaged at) chosen keeps (recovers (Damaged at) (from_roles b v g c o chosen (Damaged at) (not_either at) is));
}

-- what was before an opening is kept, and what is later has P or was left before
opens_past : (before now : ℕ) (old new : ℕ → List ℕ → Type 0) (P : List ℕ → Type 0) → Opens before now old new P → (k : ℕ) (file : List ℕ) → k ≤ before → new k file ↔ old k file
opens_past before now old new P (refused soon leaves) k file low = leaves.past k file low
opens_past before now old new P (synced first low soon each past) k file below = past k file below

opens_later : (before now : ℕ) (old new : ℕ → List ℕ → Type 0) (P : List ℕ → Type 0) → Opens before now old new P → (k : ℕ) (file : List ℕ) → before < k → k ≤ now → new k file → old before file ⊎ P file
opens_later before now old new P (refused soon leaves) k file low high left = inl (leaves.each k file (omega (arith, low)) high left)
opens_later before now old new P (synced first low soon each past) k file above high left = inr (each k file (omega (arith, above, soon)) high left)

module _ {D : Type 0} (R : D → List ℕ) (M : D → ℕ) (I : D → ℕ → List ℕ → Type 0) where
  -- The two files were settled, by their roles.
  record Rests (main alt : D) (b : Bool) (current other : D) : Type 0 where
    first : ℕ
    soon : first ≤ M (current_of b main alt) + 1
    low : first ≤ M current
    other_first : ℕ
    other_soon : other_first ≤ M (current_of (not b) main alt) + 1
    other_low : other_first ≤ M other
    current_only : (k : ℕ) (file : List ℕ) → first ≤ k → k ≤ M current → I current k file → file ≡ R current
    other_only : (k : ℕ) (file : List ℕ) → other_first ≤ k → k ≤ M other → I other k file → file ≡ R other
    same : HoldSame (R main) (R alt) (first_of b (R current) (R other)) (second_of b (R current) (R other))

  by_roles : (main alt : D) (b : Bool) (current other : D) → (let m = (if b then other else current) in IsSettled (M main) (M m) (R main) (R m) (I main) (I m))
      → (let a = (if b then current else other) in IsSettled (M alt) (M a) (R alt) (R a) (I alt) (I a)) → Rests main alt b current other
  by_roles main alt false current other one two = record {
    first = one.first;
    soon = one.soon;
    low = one.now_low;
    other_first = two.first;
    other_soon = two.soon;
    other_low = two.now_low;
    current_only = λ k file low high left. one.each k file low high left ∙ sym one.bytes;
    other_only = λ k file low high left. two.each k file low high left ∙ sym two.bytes;
    same = held_equal (R main) (R alt) (R current) (R other) one.bytes two.bytes;
  }
  by_roles main alt true current other one two = record {
    first = two.first;
    soon = two.soon;
    low = two.now_low;
    other_first = one.first;
    other_soon = one.soon;
    other_low = one.now_low;
    current_only = λ k file low high left. two.each k file low high left ∙ sym two.bytes;
    other_only = λ k file low high left. one.each k file low high left ∙ sym one.bytes;
    same = held_equal (R main) (R alt) (R other) (R current) one.bytes two.bytes;
  }

  module _ (main alt : D) (b : Bool) (current other : D)
      (one : let m = (if b then other else current) in IsSettled (M main) (M m) (R main) (R m) (I main) (I m)) (two : let a = (if b then current else other) in IsSettled (M alt) (M a) (R alt) (R a) (I alt) (I a)) where
    rests : Rests main alt b current other
    rests = by_roles main alt b current other one two

    -- nothing was done since
    pub since_settled : SinceChosen R M I main alt b current other
    unfolding rests
    since_settled = record {
      since = record {
        first = rests.first;
        soon = rests.soon;
        other_first = rests.other_first;
        other_soon = rests.other_soon;
        each = λ k j file file' low high low' high' left left'.
            subst (λ (f : List ℕ). HoldSame (R main) (R alt) (first_of b f file') (second_of b f file')) (sym (rests.current_only k file low high left))
            (subst (λ (f : List ℕ). HoldSame (R main) (R alt) (first_of b (R current) f) (second_of b (R current) f)) (sym (rests.other_only j file' low' high' left')) rests.same);
        other_only = rests.other_only;
      };
      low = rests.low;
      other_low = rests.other_low;
    }

    -- the other file is written anew, and the current one only read
    module _ (current' other' : D) (stands : I current (M current) (R current)) (looks : OnlyReads (M current) (M current') (R current) (R current') (I current) (I current'))
        (keeps : Keeps b (R current) (R other) (M current) (M current') (M other) (M other') (I current) (I current') (I other) (I other')) where
      still_read : (k : ℕ) (file : List ℕ) → rests.first ≤ k → k ≤ M current' → I current' k file → file ≡ R current
      unfolding rests
      still_read k file low high left = elim (cases_lt k (M current)) [
        | inl less ↦ rests.current_only k file low (omega (arith, less)) ((looks.stop.past k file (omega (arith, less))).0 left)
        | inr more ↦ rests.current_only (M current) file rests.low (omega arith) (looks.stop.each k file more high left)
      ]

      still_held : (k : ℕ) (file : List ℕ) → rests.other_first ≤ k → k ≤ M other' → I other' k file → HoldAsBefore b (R current) (R other) (R current) file
      unfolding rests
      still_held k file low high left = elim (cases_lt (M other) k) [
        | inl later ↦ keeps.each (M current) k (R current) file (omega arith) looks.stop.later (omega (arith, later)) high ((looks.stop.past (M current) (R current) (omega arith)).1 stands) left
        | inr early ↦
            let is : file ≡ R other = rests.other_only k file low early ((keeps.other_past k file early).0 left) in
            subst (λ (f : List ℕ). HoldAsBefore b (R current) (R other) (R current) f) (sym is) (record { records = λ found held. (found, held, refl); damage = λ at held. held })
      ]

  -- what two files hold by their roles, by their names and the roles that they have then
  turned_held : (b : Bool) (m a c o file : List ℕ) → HoldSame m a (first_of b c o) (second_of b c o) → HoldAsBefore b c o c file → HoldSame m a (first_of (not b) file c) (second_of (not b) file c)
  turned_held false m a c o file same h = held_on m a c o c file same h
  turned_held true m a c o file same h = held_on m a o c file c same (record { records = h.records; damage = h.damage })

  twice : (b : Bool) (main alt : D) (n : ℕ) → n ≤ M (current_of b main alt) + 1 → n ≤ M (current_of (not (not b)) main alt) + 1
  twice false main alt n le = le
  twice true main alt n le = le

  pub since_turned : (main alt : D) (b : Bool) (current other current' other' : D) → (let m = (if b then other else current) in IsSettled (M main) (M m) (R main) (R m) (I main) (I m))
      → (let a = (if b then current else other) in IsSettled (M alt) (M a) (R alt) (R a) (I alt) (I a)) → I current (M current) (R current) → OnlyReads (M current) (M current') (R current) (R current') (I current) (I current')
      → Keeps b (R current) (R other) (M current) (M current') (M other) (M other') (I current) (I current') (I other) (I other') → SinceChosen R M I main alt (not b) other' current'
  unfolding rests
  since_turned main alt b current other current' other' one two stands looks keeps =
      let at = rests main alt b current other one two in
      record {
        since = record {
          first = at.other_first;
          soon = at.other_soon;
          other_first = at.first;
          other_soon = twice b main alt at.first at.soon;
          each = λ k j file file' low high low' high' left left'.
              subst (λ (f : List ℕ). HoldSame (R main) (R alt) (first_of (not b) file f) (second_of (not b) file f)) (sym (still_read main alt b current other one two current' other' stands looks keeps j file' low' high' left'))
              (turned_held b (R main) (R alt) (R current) (R other) file at.same (still_held main alt b current other one two current' other' stands looks keeps k file low high left));
          other_only = λ j file low high left. still_read main alt b current other one two current' other' stands looks keeps j file low high left ∙ sym looks.bytes;
        };
        low = omega (arith, at.other_low, keeps.other_later);
        other_low = omega (arith, at.low, keeps.later);
      }

  -- the two were chosen, and one of version 1 was written anew
  pub since_chosen : (T : D → Bool) (main alt : D) (b b' : Bool) (generation : ℕ) (current other current' other' : D) → (let m = (if b then other else current) in IsSettled (M main) (M m) (R main) (R m) (I main) (I m))
      → (let a = (if b then current else other) in IsSettled (M alt) (M a) (R alt) (R a) (I alt) (I a)) → IsTrue (T current) → IsTrue (T other) → IsAtRest b generation (R current) (R other) (I current (M current)) (I other (M other)) → I current (M current) (R current)
      → ((b' ≡ b) × (current' ≡ current) × (other' ≡ other)) ⊎ IsTurned T R M I b generation current other b' current' other' → SinceChosen R M I main alt b' current' other'
  since_chosen T main alt b b' generation current other current' other' one two told also rest stands which = elim which [
    | inl same ↦
        subst (λ (x : Bool). SinceChosen R M I main alt x current' other') (sym same.0)
        (subst (λ (d : D). SinceChosen R M I main alt b d other') (sym same.1)
        (subst (λ (d : D). SinceChosen R M I main alt b current d) (sym same.2) (since_settled main alt b current other one two)))
    | inr made ↦
        subst (λ (x : Bool). SinceChosen R M I main alt x current' other') (sym made.turned)
        (since_turned main alt b current other other' current' one two stands (made.looks told) (made.keeps told also rest))
  ]

  -- a kernel is started over the current one
  module _ (main alt : D) (b : Bool) (v g : ℕ) (current other now : D) (was : SinceChosen R M I main alt b current other) (chosen : IsChosen (first_of b (R current) (R other)) (second_of b (R current) (R other)) b v g)
      (stands : I current (M current) (R current)) (kinds : Opens (M current) (M now) (I current) (I now) (KeepsKind (R current))) (recovers : Opens (M current) (M now) (I current) (I now) (RecoversAs (R current))) where
    held_before : (j : ℕ) (file file' : List ℕ) → was.since.other_first ≤ j → j ≤ M other → I current (M current) file → I other j file' → HoldSame (R main) (R alt) (first_of b file file') (second_of b file file')
    held_before j file file' low high left left' = was.since.each (M current) j file file' was.low (omega arith) low high left left'

    held_after : (j : ℕ) (file file' : List ℕ) → was.since.other_first ≤ j → j ≤ M other → I other j file' → KeepsKind (R current) file → RecoversAs (R current) file → HoldSame (R main) (R alt) (first_of b file file') (second_of b file file')
    held_after j file file' low high left' keeps same =
        let is : file' ≡ R other = was.since.other_only j file' low high left' in
        let first_held : HoldSame (R main) (R alt) (first_of b (R current) (R other)) (second_of b (R current) (R other)) =
        subst (λ (f : List ℕ). HoldSame (R main) (R alt) (first_of b (R current) f) (second_of b (R current) f)) is (held_before j (R current) file' low high stands left') in
        subst (λ (f : List ℕ). HoldSame (R main) (R alt) (first_of b file f) (second_of b file f)) (sym is)
        (held_on (R main) (R alt) (first_of b (R current) (R other)) (second_of b (R current) (R other)) (first_of b file (R other)) (second_of b file (R other)) first_held
        (held_kept b v g (R current) file (R other) chosen keeps same))

    held_later : (j : ℕ) (file file' : List ℕ) → was.since.other_first ≤ j → j ≤ M other → I other j file' → I current (M current) file ⊎ KeepsKind (R current) file → I current (M current) file ⊎ RecoversAs (R current) file
        → HoldSame (R main) (R alt) (first_of b file file') (second_of b file file')
    held_later j file file' low high left' (inl left) other_way = held_before j file file' low high left left'
    held_later j file file' low high left' (inr keeps) (inl left) = held_before j file file' low high left left'
    held_later j file file' low high left' (inr keeps) (inr same) = held_after j file file' low high left' keeps same

    pub since_started : SinceOpened R M I main alt b now other
    since_started = record {
      first = was.since.first;
      soon = was.since.soon;
      other_first = was.since.other_first;
      other_soon = was.since.other_soon;
      each = λ k j file file' low high low' high' left left'. elim (cases_lt (M current) k) [
        | inl above ↦ held_later j file file' low' high' left' (opens_later (M current) (M now) (I current) (I now) (KeepsKind (R current)) kinds k file above high left) (opens_later (M current) (M now) (I current) (I now) (RecoversAs (R current)) recovers k file above high left)
        | inr below ↦ was.since.each k j file file' low below low' high' ((opens_past (M current) (M now) (I current) (I now) (KeepsKind (R current)) kinds k file below).0 left) left'
      ];
      other_only = was.since.other_only;
    }

-- a test of both by names holds of both by roles
pub both_roles : {D : Type 0} (T : D → Bool) (b : Bool) (main alt current other : D) → (let m = (if b then other else current) in T m ≡ T main) → (let a = (if b then current else other) in T a ≡ T alt)
    → T main ≡ true → T alt ≡ true → (T current ≡ true) × (T other ≡ true)
both_roles T false main alt current other one two told also = (one ∙ told, two ∙ also)
both_roles T true main alt current other one two told also = (two ∙ also, one ∙ told)
