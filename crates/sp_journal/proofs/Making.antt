-- What a stop leaves while a file is made anew.
use Rattle.std.proofs.Common.{◌≡◌, ◌⊎◌, inl, inr, ◌+◌, ◌-◌, ◌<◌, ◌≤◌, ℕ, zero, suc, List, [], ◌∷◌, ◌++◌, length, take, refl, sym, ◌∙◌, ap, subst, arith, length-take}
use Rattle.std.proofs.lemmas.List.{append-nil}
use Rattle.std.proofs.lemmas.Int.{clamps}
use Rattle.sp_disk.specs.Files.{put, Torn, Shortened}
use Rattle.sp_disk.specs.Faults.{Rose}
use Rattle.sp_disk.specs.Moments.{LeavesOnly}
use Rattle.sp_journal.specs.Format.{header_bytes, u32_bytes, u64_bytes}
use Rattle.sp_journal.specs.Recovery.{Base, IsBase, nothing, new_file, NeedsMaking, short, unfinished, HoldsNothing, start, empty}
use Rattle.sp_journal.proofs.Crashes.{closed_gate, length-header}

-- two runs of calls, one after the other
pub chained : (a b c : ℕ) (first second third : ℕ → List ℕ → Type 0) (P : List ℕ → Type 0) → LeavesOnly a b first second P → LeavesOnly b c second third P → LeavesOnly a c first third P
chained a b c first second third P one two = record {
  later = omega (arith, one.later, two.later);
  each = λ k file low high left. elim (which k) [
    | inl below ↦ one.each k file low below ((two.past k file below).0 left)
    | inr above ↦ two.each k file above high left
  ];
  past = λ k file low.
      let down = two.past k file (omega (arith, low, one.later)) in let more = one.past k file low in
      (λ x. more.0 (down.0 x), λ x. down.1 (more.1 x));
}
  where
    which : (k : ℕ) → (k ≤ b) ⊎ (b ≤ k)
    which k = grind arith

-- the count of faults over two calls
pub rose_on : (a b c : ℕ) → a ≤ b → Rose b c → Rose a c
rose_on a b c le rose = omega (arith, clamps, rose, le)

front_of : (front : List ℕ) (gate : ℕ) (tail : List ℕ) (n : ℕ) → length front < n → take n (front ++ gate ∷ tail) ≡ front ++ gate ∷ take (n - (length front + 1)) tail
front_of [] gate tail zero lt = absurd (omega (arith, lt))
front_of [] gate tail (suc n) lt = let same : n ≡ suc n - 1 = omega arith in ap (λ (k : ℕ). gate ∷ take k tail) same
front_of (x ∷ front) gate tail zero lt = absurd (omega (arith, lt))
front_of (x ∷ front) gate tail (suc n) lt =
    let same : n - (length front + 1) ≡ suc n - (suc (length front) + 1) = omega arith in
    ap (λ (l : List ℕ). x ∷ l) (front_of front gate tail n (omega (arith, lt)) ∙ ap (λ (k : ℕ). front ++ gate ∷ take k tail) same)

-- a front of a file that needs making needs it too
pub front_needs : (file : List ℕ) (n : ℕ) → NeedsMaking file → NeedsMaking (take n file)
front_needs file n (short is) = short (omega (arith, length-take n file, is))
front_needs file n (unfinished generation gate tail low high shut is) = elim (which n) [
  | inl few ↦ short (omega (arith, length-take n file, few))
  | inr many ↦
      let front = header_bytes 2 generation in
      unfinished generation gate (take (n - (length front + 1)) tail) low high shut
      (ap (λ (l : List ℕ). take n l) is ∙ front_of front gate tail n (omega (arith, many, length-header 2 generation)))
]
  where
    which : (k : ℕ) → (k ≤ 17) ⊎ (17 < k)
    which k = grind arith

-- a file that needs making holds nothing
pub file_holds : (file : List ℕ) → NeedsMaking file → HoldsNothing file
file_holds file (short is) = empty is
file_holds file (unfinished generation gate tail low high shut is) =
    let front = header_bytes 2 generation in
    let base : Base = record { version = 2; generation = generation; front = []; found = nothing } in
    let whole : IsBase base = record { header = inr (refl, omega (arith, low), high); leads = start } in
    closed_gate base gate tail file whole shut (is ∙ ap (λ (l : List ℕ). l ++ gate ∷ tail) (sym (append-nil front)))

-- a cut of it
pub cut_needs : (was file : List ℕ) → NeedsMaking was → Shortened 0 was file → NeedsMaking file
cut_needs was file needs cut = subst NeedsMaking (sym cut.front) (front_needs was (length file) needs)

-- the writing of a new file over an empty one
pub torn_new : (file : List ℕ) (n : ℕ) → n ≤ 17 → Torn 0 n [] file → NeedsMaking file
torn_new file n few torn = short (omega (arith, torn.no_longer, few))

pub empty_needs : (file : List ℕ) → file ≡ [] → NeedsMaking file
empty_needs file is = short (omega (arith, ap length is))

-- the bytes of a new file, written over nothing
pub new_bytes : (reads : List ℕ) → reads ≡ [] → put reads 0 (83 ∷ 80 ∷ 74 ∷ 76 ∷ 0 ∷ 0 ∷ 0 ∷ 2 ∷ 0 ∷ 0 ∷ 0 ∷ 0 ∷ 0 ∷ 0 ∷ 0 ∷ 1 ∷ 0 ∷ []) ≡ new_file
unfolding header_bytes u32_bytes u64_bytes
new_bytes reads none = ap (λ (l : List ℕ). put l 0 (83 ∷ 80 ∷ 74 ∷ 76 ∷ 0 ∷ 0 ∷ 0 ∷ 2 ∷ 0 ∷ 0 ∷ 0 ∷ 0 ∷ 0 ∷ 0 ∷ 0 ∷ 1 ∷ 0 ∷ [])) none
