-- Sums over the members that a split takes apart.
use Rattle.std.proofs.Common.{◌≡◌, ℕ, zero, suc, ◌+◌, ◌*◌, ◌<◌, ◌≤◌, ◌⊎◌, inl, inr, Bool, true, false, ◌||◌, List, [], ◌∷◌, ◌++◌, length, map, take, slice_get, refl, sym, ap, ◌∙◌, arith}
use Rattle.std.specs.Prelude.{nat_eq}
use Rattle.std.specs.Option.{option_to_list}
use Rattle.std.specs.List.{flat_map, sum_by, IsDistinct}
use Rattle.std.specs.List.Sorted.{IsPermutation}
use Rattle.std.proofs.lemmas.Bool.{cases_lt}
use Rattle.std.proofs.lemmas.Cmp.{nat_eq_equiv}
use Rattle.std.proofs.lemmas.List.{length-append}
use Rattle.std.proofs.lemmas.List.Folds.{list_any-append}
use Rattle.std.proofs.lemmas.List.Sums.{sum_by-cons, sum_by-append}
use Rattle.std.proofs.lemmas.List.Sorted.{sum_by-IsPermutation}
use Rattle.std.proofs.lemmas.Map.Keys.{IsDistinct-push, IsDistinct-from_apart}
use Rattle.sp_rect.specs.Plane.{Rectangle}
use Rattle.sp_split.specs.Split.{Splits, is_among}
use Rattle.sp_split.proofs.Members.{same_members, all_below, unequal_from}
use Rattle.sp_split.proofs.Positions.{split_positions}
use Rattle.sp_split.proofs.Sizes.{sizes}
use Rattle.sp_grow.specs.Members.{pick}

-- the numbers below n
abbrev upto : ℕ → List ℕ
upto zero = []
upto (suc n) = upto n ++ n ∷ []

length-upto : (n : ℕ) → length (upto n) ≡ n
length-upto zero = refl
length-upto (suc n) = omega (arith, length-append (upto n) (n ∷ []), length-upto n)

not_in : (n k : ℕ) → n ≤ k → is_among (upto n) k ≡ false
not_in zero k le = refl
not_in (suc n) k le =
    list_any-append (nat_eq k) (upto n) (n ∷ []) ∙ ap (λ (b : Bool). b || (nat_eq k n || false)) (not_in n k (omega arith)) ∙ ap (λ (b : Bool). b || false) (unequal_from k n (λ (e : k ≡ n). omega arith))

distinct_upto : (n : ℕ) → IsDistinct nat_eq (upto n)
distinct_upto zero = IsDistinct-from_apart nat_eq [] (λ i j d lt len. absurd (omega arith))
distinct_upto (suc n) = IsDistinct-push nat_eq_equiv (upto n) n (distinct_upto n) (not_in n n (omega arith))

within_upto : (n q : ℕ) → is_among (upto n) q ≡ true → q < n
within_upto n q e = by_order (cases_lt q n)
  where
    by_order : (q < n) ⊎ (n ≤ q) → q < n
    by_order (inl lt) = lt
    by_order (inr le) = let no = not_in n q le in cc

-- all positions, in another order
pub all_positions : (n : ℕ) (ps : List ℕ) → IsDistinct nat_eq ps → ((q : ℕ) → is_among ps q ≡ true → q < n) → length ps ≡ n → IsPermutation ps (upto n)
all_positions n ps d within size = same_members ps (upto n) d (distinct_upto n) same
  where
    same : (k : ℕ) → is_among ps k ≡ is_among (upto n) k
    same k = by_order (cases_lt k n)
      where
        off : (xs : List ℕ) → ((q : ℕ) → is_among xs q ≡ true → q < n) → n ≤ k → (b : Bool) → is_among xs k ≡ b → b ≡ false
        off xs h le true e = let lt : k < n = h k e in absurd (omega arith)
        off xs h le false e = refl

        by_order : (k < n) ⊎ (n ≤ k) → is_among ps k ≡ is_among (upto n) k
        by_order (inl lt) = all_below n ps d within size k lt ∙ sym (all_below n (upto n) (distinct_upto n) (within_upto n) (length-upto n) k lt)
        by_order (inr le) = off ps within le (is_among ps k) refl ∙ sym (off (upto n) (within_upto n) le (is_among (upto n) k) refl)

module _ {X : Type 0} (w : X → ℕ) where
  abbrev at : List X → ℕ → ℕ
  at xs i = sum_by w (option_to_list (slice_get xs i))

  pub sum_pick : (xs : List X) (is : List ℕ) → sum_by w (pick xs is) ≡ sum_by (at xs) is
  sum_pick xs [] = refl
  sum_pick xs (i ∷ is) = omega (arith, sum_by-append w (option_to_list (slice_get xs i)) (pick xs is), sum_pick xs is, sum_by-cons (at xs) i is)

  one_more : (xs : List X) (n : ℕ) → take (suc n) xs ≡ take n xs ++ option_to_list (slice_get xs n)
  one_more [] zero = refl
  one_more [] (suc n) = refl
  one_more (x ∷ xs) zero = refl
  one_more (x ∷ xs) (suc n) = ap (λ (ys : List X). x ∷ ys) (one_more xs n)

  sum_upto : (xs : List X) (n : ℕ) → sum_by (at xs) (upto n) ≡ sum_by w (take n xs)
  sum_upto xs zero = refl
  sum_upto xs (suc n) =
      omega (arith, sum_by-append (at xs) (upto n) (n ∷ []), sum_by-cons (at xs) n [], sum_upto xs n, ap (sum_by w) (one_more xs n), sum_by-append w (take n xs) (option_to_list (slice_get xs n)))

  whole_list : (xs : List X) → take (length xs) xs ≡ xs
  whole_list [] = refl
  whole_list (x ∷ xs) = ap (λ (ys : List X). x ∷ ys) (whole_list xs)

  -- the two groups of a split have all members
  pub sum_parts : (min : ℕ) (rs : List Rectangle) (xs : List X) (first second : List ℕ) → length rs ≡ length xs → 1 ≤ min → 2 * min ≤ length rs → Splits rs min first second → sum_by w (pick xs first) + sum_by w (pick xs second) ≡ sum_by w xs
  sum_parts min rs xs first second size least enough s =
      let p = split_positions rs min first second s in
      let z = sizes rs min least enough first second s in
      let all = all_positions (length rs) (first ++ second) p.distinct p.within (length-append first second ∙ z.2) in
      omega (
        arith,
        sum_pick xs first,
        sum_pick xs second,
        sum_by-append (at xs) first second,
        sum_by-IsPermutation (at xs) (first ++ second) (upto (length rs)) all,
        ap (λ (n : ℕ). sum_by (at xs) (upto n)) size,
        sum_upto xs (length xs),
        ap (sum_by w) (whole_list xs),
      )

module _ {X Y : Type 0} (w : Y → ℕ) (f : X → List Y) where
  pub sum_flat_map : (xs : List X) → sum_by w (flat_map f xs) ≡ sum_by (λ x. sum_by w (f x)) xs
  sum_flat_map [] = refl
  sum_flat_map (x ∷ xs) = omega (arith, sum_by-append w (f x) (flat_map f xs), sum_flat_map xs, sum_by-cons (λ (y : X). sum_by w (f y)) x xs)

module _ {X Y : Type 0} (w : Y → ℕ) (f : X → Y) where
  pub sum_map : (xs : List X) → sum_by w (map f xs) ≡ sum_by (λ x. w (f x)) xs
  sum_map [] = refl
  sum_map (x ∷ xs) = omega (arith, sum_by-cons w (f x) (map f xs), sum_map xs, sum_by-cons (λ (y : X). w (f y)) x xs)
