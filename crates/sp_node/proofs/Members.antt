-- Lists of distinct numbers with the same members are each other's permutations.
use Rattle.std.proofs.Common.{◌≡◌, ℕ, ◌<◌, Bool, true, false, cond, ◌||◌, List, [], ◌∷◌, ◌++◌, refl, sym, ap, ◌∙◌, subst, arith}
use Rattle.std.specs.Prelude.{nat_eq}
use Rattle.std.specs.List.{AllByRecursion, IsDistinct, list_any, filter}
use Rattle.std.specs.List.Sorted.{IsPermutation, IsStrictlyIncreasing}
use Rattle.std.specs.Ordering.{nat_cmp}
use Rattle.std.proofs.lemmas.Bool.Decides.{nat_tests}
use Rattle.std.proofs.lemmas.Cmp.{nat_eq_equiv}
use Rattle.std.proofs.lemmas.List.Kept.{IsStrictlySortedBy-filter}
use Rattle.std.proofs.lemmas.List.Sorted.{IsPermutation-refl, IsPermutation-cons, IsPermutation-middle, IsPermutation-trans, list_any-IsPermutation}
use Rattle.std.proofs.lemmas.Map.Keys.{IsDistinct-head, IsDistinct-tail, IsDistinct-IsPermutation, IsDistinct-from_apart, below_from_sorted, sorted_from_strictly_increasing, IsStrictlyIncreasing-from_sorted}

none_in : (y : ℕ) (ys : List ℕ) → AllByRecursion (λ z. nat_eq y z ≡ false) ys → list_any (nat_eq y) ys ≡ false
none_in y [] h = refl
none_in y (z ∷ zs) h = ap (λ (b : Bool). b || list_any (nat_eq y) zs) h.0 ∙ none_in y zs h.1

self_equal : (k : ℕ) → nat_eq k k ≡ true
self_equal k = grind (arith, nat_tests)

equal_from : (j k : ℕ) → nat_eq j k ≡ true → j ≡ k
equal_from j k e = grind (arith, nat_tests)

pub found_in : (y : ℕ) (xs : List ℕ) → list_any (nat_eq y) xs ≡ true → (a : List ℕ) × (b : List ℕ) × (xs ≡ a ++ y ∷ b)
found_in y [] h = cc
found_in y (x ∷ xs) h = by_test (nat_eq y x) refl h (found_in y xs)
  where
    by_test : (b : Bool) → nat_eq y x ≡ b → (b || list_any (nat_eq y) xs) ≡ true → (list_any (nat_eq y) xs ≡ true → (a : List ℕ) × (b : List ℕ) × (xs ≡ a ++ y ∷ b)) → (a : List ℕ) × (b : List ℕ) × (x ∷ xs ≡ a ++ y ∷ b)
    by_test true e h f = ([], xs, ap (λ z. z ∷ xs) (sym (equal_from y x e)))
    by_test false e h f = let more = f h in (x ∷ more.0, more.1, ap (λ zs. x ∷ zs) more.2)

pub permutation_from_members : (xs ys : List ℕ) → IsDistinct nat_eq xs → IsDistinct nat_eq ys → ((q : ℕ) → list_any (nat_eq q) xs ≡ list_any (nat_eq q) ys) → IsPermutation xs ys
permutation_from_members [] [] d e same = IsPermutation-refl []
permutation_from_members (x ∷ xs) [] d e same = absurd (no (list_any (nat_eq x) xs) (ap (λ (b : Bool). b || list_any (nat_eq x) xs) (sym (self_equal x)) ∙ same x))
  where
    no : (b : Bool) → (true || b) ≡ false → ⊥
    no b h = cc
permutation_from_members xs (y ∷ ys) d e same =
    let at = found_in y xs (same y ∙ ap (λ (b : Bool). b || list_any (nat_eq y) ys) (self_equal y)) in
    let rest = at.0 ++ at.1 in
    let moved : IsPermutation xs (y ∷ rest) = subst (λ (zs : List ℕ). IsPermutation zs (y ∷ rest)) (sym at.2) (IsPermutation-middle at.0 y at.1) in
    let distinct = IsDistinct-IsPermutation nat_eq (nat_eq_equiv.symm) xs (y ∷ rest) moved d in
    let more = permutation_from_members rest ys (IsDistinct-tail nat_eq y rest distinct) (IsDistinct-tail nat_eq y ys e) (λ q. others q rest (none_in y rest (IsDistinct-head nat_eq y rest distinct)) (none_in y ys (IsDistinct-head nat_eq y ys e)) (nat_eq q y) refl (sym (list_any-IsPermutation (nat_eq q) xs (y ∷ rest) moved) ∙ same q)) in
    IsPermutation-trans xs (y ∷ rest) (y ∷ ys) moved (IsPermutation-cons y rest ys more)
  where
    others : (q : ℕ) (rest : List ℕ) → list_any (nat_eq y) rest ≡ false → list_any (nat_eq y) ys ≡ false → (b : Bool) → nat_eq q y ≡ b → (nat_eq q y || list_any (nat_eq q) rest) ≡ (nat_eq q y || list_any (nat_eq q) ys) → list_any (nat_eq q) rest ≡ list_any (nat_eq q) ys
    others q rest n m true k h = ap (λ (z : ℕ). list_any (nat_eq z) rest) (equal_from q y k) ∙ n ∙ sym m ∙ ap (λ (z : ℕ). list_any (nat_eq z) ys) (sym (equal_from q y k))
    others q rest n m false k h = ap (λ (b : Bool). b || list_any (nat_eq q) rest) (sym k) ∙ h ∙ ap (λ (b : Bool). b || list_any (nat_eq q) ys) k

pub ascends_filter : (p : ℕ → Bool) (xs : List ℕ) → IsStrictlyIncreasing xs → IsStrictlyIncreasing (filter p xs)
ascends_filter p xs s = IsStrictlyIncreasing-from_sorted (filter p xs) (IsStrictlySortedBy-filter nat_cmp p xs (sorted_from_strictly_increasing xs s))

pub distinct_from_ascending : (xs : List ℕ) → IsStrictlyIncreasing xs → IsDistinct nat_eq xs
distinct_from_ascending xs s = IsDistinct-from_apart nat_eq xs (λ i j d lt len. let less = below_from_sorted xs i j d (sorted_from_strictly_increasing xs s) lt len in apart _ _ less)
  where
    apart : (a b : ℕ) → a < b → nat_eq a b ≡ false
    apart a b lt = grind (arith, nat_tests)

-- a part is what passes
pub any_filter : (p : ℕ → Bool) (xs : List ℕ) (q : ℕ) → list_any (nat_eq q) (filter p xs) ≡ cond (p q) (list_any (nat_eq q) xs) false
any_filter p [] q = by_test (p q)
  where
    by_test : (b : Bool) → false ≡ cond b false false
    by_test true = refl
    by_test false = refl
any_filter p (x ∷ xs) q = by_test (p x) refl (nat_eq q x) refl (any_filter p xs q)
  where
    by_test : (b : Bool) → p x ≡ b → (c : Bool) → nat_eq q x ≡ c → list_any (nat_eq q) (filter p xs) ≡ cond (p q) (list_any (nat_eq q) xs) false → list_any (nat_eq q) (cond b (x ∷ filter p xs) (filter p xs)) ≡ cond (p q) (c || list_any (nat_eq q) xs) false
    by_test true k true l h =
        ap (λ (b : Bool). b || list_any (nat_eq q) (filter p xs)) l
        ∙ ap (λ (b : Bool). cond b true false) (sym k ∙ ap p (sym (equal_from q x l)))
    by_test true k false l h = ap (λ (b : Bool). b || list_any (nat_eq q) (filter p xs)) l ∙ h
    by_test false k true l h = h ∙ both (p q) (ap p (equal_from q x l) ∙ k)
      where
        both : (b : Bool) → b ≡ false → cond b (list_any (nat_eq q) xs) false ≡ cond b true false
        both true e = cc
        both false e = refl
    by_test false k false l h = h
