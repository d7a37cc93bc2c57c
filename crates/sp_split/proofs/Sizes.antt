-- How large the groups of a split are.
use Rattle.std.specs.Prelude.{◌≡◌, ℕ, ◌+◌, ◌-◌, ◌*◌, ◌<◌, ◌≤◌, true, false, List, [], ◌∷◌, length}
use Rattle.std.proofs.Common.{arith, inl, inr}
use Rattle.std.proofs.lemmas.List.{length-append}
use Rattle.std.proofs.lemmas.List.Sorted.{length_permutation}
use Rattle.sp_rect.specs.Plane.{Rectangle}
use Rattle.sp_split.specs.Split.{Formed, seeded, to_first, to_second, Goes, Splits}

module _ (rects : List Rectangle) (min : ℕ) (least : 1 ≤ min) (enough : 2 * min ≤ length rects) where
  -- each group leaves enough for the other
  pub record Room (first second : List ℕ) : Type 0 where
    pub some : 1 ≤ length first
    pub some' : 1 ≤ length second
    pub low : length first + min ≤ length rects
    pub low' : length second + min ≤ length rects

  goes_first : (first second : List ℕ) (p : ℕ) → Room first second → length first + length second < length rects → Goes rects min first second p true → length first + 1 + min ≤ length rects
  goes_first first second p r more (inl fills) = let s = r.low' in let f = r.low in omega (arith, fills)
  goes_first first second p r more (inr g) = let s = r.low' in let f = r.low in not_all (length first) (length second) (length rects) f s more g.0.1
    where
      not_all : (f s n : ℕ) → f + min ≤ n → s + min ≤ n → f + s < n → ¬ (s + (n - (f + s)) ≡ min) → f + 1 + min ≤ n
      not_all f s n a b c d = omega arith

  goes_second : (first second : List ℕ) (p : ℕ) → Room first second → length first + length second < length rects → Goes rects min first second p false → length second + 1 + min ≤ length rects
  goes_second first second p r more (inl fills) = let s = r.low' in let f = r.low in omega (arith, fills.1)
  goes_second first second p r more (inr g) = let s = r.low' in let f = r.low in not_all (length first) (length second) (length rects) f s more g.0.0
    where
      not_all : (f s n : ℕ) → f + min ≤ n → s + min ≤ n → f + s < n → ¬ (f + (n - (f + s)) ≡ min) → s + 1 + min ≤ n
      not_all f s n a b c d = omega arith

  pub formed_room : (first second : List ℕ) → Formed rects min first second → length first + length second ≤ length rects → Room first second
  formed_room f s (seeded i j seeds) all = record { some = omega arith; some' = omega arith; low = two; low' = two }
    where
      two : 1 + min ≤ length rects
      two = omega arith
  formed_room f s (to_first first second p formed fresh goes) all =
      let size = length-append first (p ∷ []) in
      let r = formed_room first second formed (omega (arith, size)) in
      let more = goes_first first second p r (omega (arith, size)) goes in
      record { some = omega (arith, size); some' = r.some'; low = omega (arith, size, more); low' = r.low' }
  formed_room f s (to_second first second p formed fresh goes) all =
      let size = length-append second (p ∷ []) in
      let r = formed_room first second formed (omega (arith, size)) in
      let more = goes_second first second p r (omega (arith, size)) goes in
      record { some = r.some; some' = omega (arith, size); low = r.low; low' = omega (arith, size, more) }

  -- both groups have at least min members, and all together
  pub sizes : (first second : List ℕ) → Splits rects min first second → (min ≤ length first) × (min ≤ length second) × (length first + length second ≡ length rects)
  sizes first second s =
      let r = formed_room s.in_order s.in_order' s.formed (omega (arith, s.all)) in
      let a = length_permutation _ _ s.same in
      let b = length_permutation _ _ s.same' in
      (omega (arith, r.low', s.all, a, b), omega (arith, r.low, s.all, a, b), omega (arith, s.all, a, b))
