-- What a cut leaves of a file is of its kind or empty.
use Rattle.std.proofs.Common.{◌≡◌, ◌⊎◌, inl, inr, ◌+◌, ◌-◌, ◌^◌, ◌<◌, ◌≤◌, ℕ, zero, suc, List, [], ◌∷◌, ◌++◌, length, take, refl, sym, ◌∙◌, ap, arith, length-take}
use Rattle.sp_disk.specs.Files.{Shortened}
use Rattle.sp_journal.specs.declared.kind.Kind.{Kind}
use Rattle.sp_journal.specs.declared.kind.Kind.TheVariants.{Empty, Foreign, Unfinished, Settled}
use Rattle.sp_journal.specs.Format.{header_bytes}
use Rattle.sp_journal.specs.Kinds.{IsKind, empty, foreign, unfinished, settled}
use Rattle.sp_journal.specs.Recovery.{NeedsMaking, short, unfinished as needs_unfinished}
use Rattle.sp_journal.proofs.Crashes.{length-header}
use Rattle.sp_pair.specs.Pairs.{IsUnsettled}

le_or_lt : (a b : ℕ) → (a ≤ b) ⊎ (b < a)
le_or_lt a b = grind arith

front_of : (front : List ℕ) (gate : ℕ) (tail : List ℕ) (n : ℕ) → length front < n → take n (front ++ gate ∷ tail) ≡ front ++ gate ∷ take (n - (length front + 1)) tail
front_of [] gate tail zero lt = absurd (omega (arith, lt))
front_of [] gate tail (suc n) lt = let same : n ≡ suc n - 1 = omega arith in ap (λ (k : ℕ). gate ∷ take k tail) same
front_of (x ∷ front) gate tail zero lt = absurd (omega (arith, lt))
front_of (x ∷ front) gate tail (suc n) lt =
    let same : n - (length front + 1) ≡ suc n - (suc (length front) + 1) = omega arith in
    ap (λ (l : List ℕ). x ∷ l) (front_of front gate tail n (omega (arith, lt)) ∙ ap (λ (k : ℕ). front ++ gate ∷ take k tail) same)

-- of a file with a header, a front that has that and the gate
cut_front : (was file : List ℕ) (version generation gate : ℕ) (tail : List ℕ) → Shortened 0 was file → 17 < length file → was ≡ header_bytes version generation ++ gate ∷ tail
    → file ≡ header_bytes version generation ++ gate ∷ take (length file - (length (header_bytes version generation) + 1)) tail
cut_front was file version generation gate tail cut long is =
    cut.front ∙ ap (λ (l : List ℕ). take (length file) l) is ∙ front_of (header_bytes version generation) gate tail (length file) (omega (arith, long, length-header version generation))

-- the file is of that kind, unless that is foreign, or it is not settled
pub record IsQuiet (was_kind : Kind) (file : List ℕ) : Type 0 where
  pub kind : Kind
  pub is : IsKind file kind
  pub which : IsUnsettled kind ⊎ (kind ≡ was_kind)

pub short_quiet : (was_kind : Kind) (file : List ℕ) → length file ≤ 17 → IsQuiet was_kind file
short_quiet was_kind file few = record { kind = Empty; is = empty few; which = inl tt }

-- what a cut leaves
long_quiet : (was file : List ℕ) (kind : Kind) → IsKind was kind → (kind ≡ Foreign → ⊥) → Shortened 0 was file → 17 < length file → IsQuiet kind file
long_quiet was file kind (empty few) home cut long = absurd (omega (arith, few, long, ap length cut.front, length-take (length file) was))
long_quiet was file kind (foreign longer none) home cut long = absurd (home refl)
long_quiet was file kind (unfinished g gate tail longer low high shut stands) home cut long = record {
  kind = Unfinished;
  is = unfinished g gate (take (length file - (length (header_bytes 2 g) + 1)) tail) long low high shut (cut_front was file 2 g gate tail cut long stands);
  which = inl tt;
}
long_quiet was file kind (settled v g gate tail longer is open_gate stands) home cut long = record {
  kind = Settled v g;
  is = settled v g gate (take (length file - (length (header_bytes v g) + 1)) tail) long is open_gate (cut_front was file v g gate tail cut long stands);
  which = inr refl;
}

pub cut_quiet : (was file : List ℕ) (kind : Kind) → IsKind was kind → (kind ≡ Foreign → ⊥) → Shortened 0 was file → IsQuiet kind file
cut_quiet was file kind is home cut = elim (le_or_lt (length file) 17) [
  | inl few ↦ short_quiet kind file few
  | inr long ↦ long_quiet was file kind is home cut long
]

-- a file that holds nothing yet
pub unmade_quiet : (was_kind : Kind) (file : List ℕ) → NeedsMaking file → IsQuiet was_kind file
unmade_quiet was_kind file (short few) = short_quiet was_kind file few
unmade_quiet was_kind file (needs_unfinished generation gate tail low high shut stands) = elim (le_or_lt (length file) 17) [
  | inl few ↦ short_quiet was_kind file few
  | inr long ↦ record { kind = Unfinished; is = unfinished generation gate tail long low high shut stands; which = inl tt }
]

-- generations of settled files
pub generation_fits : (file : List ℕ) (version generation : ℕ) → IsKind file (Settled version generation) → generation < 2 ^ 63
generation_fits file version generation (settled v g gate tail long is open_gate stands) = elim is [
  | inl one ↦ omega (arith, one.1)
  | inr two ↦ two.2
]
