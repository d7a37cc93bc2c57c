-- How far a split has come.
use Rattle.std.proofs.Common.{◌≡◌, ℕ, ◌+◌, ◌-◌, ◌<◌, Bool, true, false, ◌||◌, List, [], ◌∷◌, ◌++◌, length, get_or, set, refl, sym, ap, ap₂, ◌∙◌, subst, arith}
use Rattle.std.specs.Prelude.{nat_eq, replicate}
use Rattle.std.specs.List.{IsDistinct}
use Rattle.std.proofs.lemmas.List.{length-append, length-set, length-replicate, get_or-set_same, get_or-set_other, get_or-replicate}
use Rattle.std.proofs.lemmas.Cmp.{nat_eq_equiv}
use Rattle.std.proofs.lemmas.Map.Keys.{IsDistinct-push, IsDistinct-from_apart, IsDistinct-IsPermutation, IsStrictlyIncreasing-from_distinct}
use Rattle.std.proofs.lemmas.List.Sorted.{IsNonDecreasingBy-from_sort}
use Rattle.std.specs.List.Sorted.{IsPermutation, IsSorted, IsStrictlyIncreasing}
use Rattle.std.specs.Ordering.{nat_cmp}
use Rattle.std.proofs.lemmas.Bool.Decides.{nat_tests}
use Rattle.sp_rect.specs.Plane.{Rectangle, bound}
use Rattle.sp_split.specs.Split.{is_among, group_bound, rect_at, Formed, seeded, to_first, to_second, IsFree, Goes, AreSeeds}
use Rattle.sp_split.proofs.Flags.{free_count, none_free, place_one, all_free, bound_more, among_more}

equal : (a b : ℕ) → nat_eq a b ≡ true → a ≡ b
equal a b e = grind (arith, nat_tests)

unequal : (a b : ℕ) → nat_eq a b ≡ false → (a ≡ b → ⊥)
unequal a b e = grind (arith, nat_tests)

or_true : (x : Bool) → (x || true) ≡ true
or_true true = refl
or_true false = refl

module _ (rects : List Rectangle) (min : ℕ) where
  pub record State (first second : List ℕ) (a b : Rectangle) (flags : List Bool) (remaining : ℕ) : Type 0 where
    pub formed : Formed rects min first second
    pub count : length first + length second + remaining ≡ length rects
    pub size : length flags ≡ length rects
    pub free : free_count flags ≡ remaining
    pub placed : (k : ℕ) → k < length rects → get_or flags k true ≡ (is_among first k || is_among second k)
    pub first_bound : a ≡ group_bound rects first
    pub second_bound : b ≡ group_bound rects second
    pub first_some : 0 < length first
    pub second_some : 0 < length second

  module _ (first second : List ℕ) (a b : Rectangle) (flags : List Bool) (remaining : ℕ) (s : State first second a b flags remaining) where
    pub all_placed : ((k : ℕ) → k < length rects → get_or flags k true ≡ true) → length first + length second ≡ length rects
    all_placed h =
        let none = none_free flags (λ k lt. h k (omega (arith, s.size))) in
        omega (arith, s.count, s.free, none)

    module _ (p : ℕ) (fresh : IsFree rects first second p) (flag : get_or flags p true ≡ false) where
      pub some_remain : 0 < remaining
      some_remain = let one = place_one flags p (omega (arith, s.size, fresh.within)) flag in omega (arith, one, s.free)

      fewer : free_count (set flags p true) ≡ remaining - 1
      fewer = let one = place_one flags p (omega (arith, s.size, fresh.within)) flag in omega (arith, one, s.free)

      size : length (set flags p true) ≡ length rects
      size = length-set flags p true ∙ s.size

      turn : (x y z : Bool) → ((x || y) || z) ≡ ((x || z) || y)
      turn true y z = refl
      turn false true true = refl
      turn false true false = refl
      turn false false true = refl
      turn false false false = refl

      join : (x y z : Bool) → ((x || y) || z) ≡ (x || (y || z))
      join true y z = refl
      join false y z = refl

      flagged : (k : ℕ) → k < length rects → get_or (set flags p true) k true ≡ ((is_among first k || is_among second k) || nat_eq k p)
      flagged k lt = by_test (nat_eq k p) refl
        where
          same : nat_eq k p ≡ true → k ≡ p
          same e = grind (arith, nat_tests)

          different : nat_eq k p ≡ false → (k ≡ p → ⊥)
          different e = grind (arith, nat_tests)

          or_true : (x : Bool) → (x || true) ≡ true
          or_true true = refl
          or_true false = refl

          or_false : (x : Bool) → (x || false) ≡ x
          or_false true = refl
          or_false false = refl

          by_test : (t : Bool) → nat_eq k p ≡ t → get_or (set flags p true) k true ≡ ((is_among first k || is_among second k) || t)
          by_test true e = ap (λ (j : ℕ). get_or (set flags p true) j true) (same e) ∙ get_or-set_same flags p true true (omega (arith, s.size, fresh.within)) ∙ sym (or_true (is_among first k || is_among second k))
          by_test false e = get_or-set_other flags p k true true (different e) ∙ s.placed k lt ∙ sym (or_false (is_among first k || is_among second k))

      pub place_first : Goes rects min first second p true → State (first ++ p ∷ []) second (bound a (rect_at rects p)) b (set flags p true) (remaining - 1)
      place_first goes = record {
        formed = to_first first second p s.formed fresh goes;
        count = omega (arith, s.count, some_remain, length-append first (p ∷ []));
        size = size;
        free = fewer;
        placed = λ k lt. flagged k lt ∙ turn (is_among first k) (is_among second k) (nat_eq k p) ∙ ap (λ (x : Bool). x || is_among second k) (sym (among_more first p k));
        first_bound = ap (λ (r : Rectangle). bound r (rect_at rects p)) s.first_bound ∙ sym (bound_more rects first p s.first_some);
        second_bound = s.second_bound;
        first_some = omega (arith, s.first_some, length-append first (p ∷ []));
        second_some = s.second_some;
      }

      pub place_second : Goes rects min first second p false → State first (second ++ p ∷ []) a (bound b (rect_at rects p)) (set flags p true) (remaining - 1)
      place_second goes = record {
        formed = to_second first second p s.formed fresh goes;
        count = omega (arith, s.count, some_remain, length-append second (p ∷ []));
        size = size;
        free = fewer;
        placed = λ k lt. flagged k lt ∙ join (is_among first k) (is_among second k) (nat_eq k p) ∙ ap (λ (x : Bool). is_among first k || x) (sym (among_more second p k));
        first_bound = s.first_bound;
        second_bound = ap (λ (r : Rectangle). bound r (rect_at rects p)) s.second_bound ∙ sym (bound_more rects second p s.second_some);
        first_some = s.first_some;
        second_some = omega (arith, s.second_some, length-append second (p ∷ []));
      }

  pub distinct : (first second : List ℕ) → Formed rects min first second → IsDistinct nat_eq first × IsDistinct nat_eq second
  distinct f s (seeded i j seeds) = (one i, one j)
    where
      one : (k : ℕ) → IsDistinct nat_eq (k ∷ [])
      one k = IsDistinct-from_apart nat_eq (k ∷ []) (λ i j d lt len. absurd (omega arith))
  distinct f s (to_first first second p formed fresh goes) = let d = distinct first second formed in (IsDistinct-push nat_eq_equiv first p d.0 fresh.not_first, d.1)
  distinct f s (to_second first second p formed fresh goes) = let d = distinct first second formed in (d.0, IsDistinct-push nat_eq_equiv second p d.1 fresh.not_second)

module _ (rects : List Rectangle) (min i j : ℕ) (seeds : AreSeeds rects i j) where
  pub start :
      (first second : List ℕ) (a b : Rectangle) (flags : List Bool) → first ≡ i ∷ [] → second ≡ j ∷ [] → a ≡ rect_at rects i → b ≡ rect_at rects j → flags ≡ replicate (length rects) false → State rects min first second a b (set (set flags i true) j true) (length rects - 2)
  start first second a b flags ef es ea eb eg =
      let n = length rects in
      let size0 : length flags ≡ n = ap (λ (fs : List Bool). length fs) eg ∙ length-replicate n false in
      let size1 : length (set flags i true) ≡ n = length-set flags i true ∙ size0 in
      let none : free_count flags ≡ n = ap free_count eg ∙ all_free n in
      let ij : i < j = seeds.ordered in
      let jn : j < n = seeds.within in
      let free_at = λ (k : ℕ) (lt : k < n). ap (λ (fs : List Bool). get_or fs k true) eg ∙ get_or-replicate n k false true lt in
      let one = place_one flags i (omega (arith, size0)) (free_at i (omega arith)) in
      let still : get_or (set flags i true) j true ≡ false = get_or-set_other flags i j true true (λ (e : j ≡ i). omega arith) ∙ free_at j jn in
      let two = place_one (set flags i true) j (omega (arith, size1)) still in
      record {
        formed = subst (λ (f : List ℕ). Formed rects min f second) (sym ef) (subst (λ (s : List ℕ). Formed rects min (i ∷ []) s) (sym es) (seeded i j seeds));
        count = omega (arith, ap (λ (f : List ℕ). length f) ef, ap (λ (s : List ℕ). length s) es);
        size = length-set (set flags i true) j true ∙ size1;
        free = omega (arith, one, two, none);
        placed = λ k lt. flag k lt (free_at k lt) size0 size1 ∙ ap₂ (λ (f s : List ℕ). is_among f k || is_among s k) (sym ef) (sym es);
        first_bound = ea ∙ ap (group_bound rects) (sym ef);
        second_bound = eb ∙ ap (group_bound rects) (sym es);
        first_some = omega (arith, ap (λ (f : List ℕ). length f) ef);
        second_some = omega (arith, ap (λ (s : List ℕ). length s) es);
      }
    where
      flag : (k : ℕ) → k < length rects → get_or flags k true ≡ false → length flags ≡ length rects → length (set flags i true) ≡ length rects → get_or (set (set flags i true) j true) k true ≡ (is_among (i ∷ []) k || is_among (j ∷ []) k)
      flag k lt f e0 e1 = by_test (nat_eq k i) (nat_eq k j) refl refl
        where
          by_test : (s t : Bool) → nat_eq k i ≡ s → nat_eq k j ≡ t → get_or (set (set flags i true) j true) k true ≡ ((s || false) || (t || false))
          by_test s true p q = let same : k ≡ j = equal k j q in ap (λ (x : ℕ). get_or (set (set flags i true) j true) x true) same ∙ get_or-set_same (set flags i true) j true true (omega (arith, e1, seeds.within)) ∙ sym (or_true (s || false))
          by_test true false p q = let same : k ≡ i = equal k i p in get_or-set_other (set flags i true) j k true true (unequal k j q) ∙ ap (λ (x : ℕ). get_or (set flags i true) x true) same ∙ get_or-set_same flags i true true (omega (arith, e0, seeds.within, seeds.ordered))
          by_test false false p q = get_or-set_other (set flags i true) j k true true (unequal k j q) ∙ get_or-set_other flags i k true true (unequal k i p) ∙ f

pub ascends : (xs ys : List ℕ) → IsDistinct nat_eq xs → IsPermutation xs ys → IsSorted nat_cmp ys → IsStrictlyIncreasing ys
ascends xs ys d p s = IsStrictlyIncreasing-from_distinct ys (IsNonDecreasingBy-from_sort (λ x. x) ys s) (IsDistinct-IsPermutation nat_eq nat_eq_equiv.symm xs ys p d)
