-- Which numbers a list has, and what lists of distinct numbers with the same members have in common.
use Rattle.std.proofs.Common.{◌≡◌, ℕ, ◌<◌, ◌≤◌, Bool, true, false, cond, ◌||◌, List, [], ◌∷◌, ◌++◌, length, refl, sym, ap, ap₂, ◌∙◌, subst, arith, Less}
use Rattle.std.specs.Prelude.{nat_eq}
use Rattle.std.specs.List.{AllByRecursion, IsDistinct, sum_by}
use Rattle.std.specs.List.Sorted.{IsPermutation, IsStrictlySortedBy}
use Rattle.std.specs.Ordering.{nat_cmp}
use Rattle.std.proofs.lemmas.Bool.Decides.{nat_tests}
use Rattle.std.proofs.lemmas.Cmp.{nat_eq_equiv}
use Rattle.std.proofs.lemmas.List.Sums.{sum_by-cons, sum_by-append}
use Rattle.std.proofs.lemmas.List.Sorted.{IsPermutation-refl, IsPermutation-cons, IsPermutation-sym, IsPermutation-trans, IsPermutation-middle, list_any-IsPermutation}
use Rattle.std.proofs.lemmas.Map.Keys.{IsDistinct-head, IsDistinct-tail, IsDistinct-cons, IsDistinct-IsPermutation, sorted_head, sorted_tail}
use Rattle.std.proofs.lemmas.Map.Steps.{length-le_from_distinct_below}
use Rattle.sp_split.specs.Split.{is_among}

pub self_equal : (k : ℕ) → nat_eq k k ≡ true
self_equal k = grind (arith, nat_tests)

pub equal_from : (j k : ℕ) → nat_eq j k ≡ true → j ≡ k
equal_from j k e = grind (arith, nat_tests)

pub unequal_from : (j k : ℕ) → (j ≡ k → ⊥) → nat_eq j k ≡ false
unequal_from j k h = grind (arith, nat_tests)

pub apart_from : (j k : ℕ) → nat_eq j k ≡ false → j ≡ k → ⊥
apart_from j k e = grind (arith, nat_tests)

pub or_true : (b : Bool) → (b || true) ≡ true
or_true true = refl
or_true false = refl

pub or_left : (a b : Bool) → a ≡ true → (a || b) ≡ true
or_left a b e = cc

pub or_none : (a b : Bool) → (a || b) ≡ false → (a ≡ false) × (b ≡ false)
or_none true b e = cc
or_none false b e = (refl, e)

-- what holds of all members holds of each
pub among_all : (P : ℕ → Type 0) (xs : List ℕ) (k : ℕ) → AllByRecursion P xs → is_among xs k ≡ true → P k
among_all P [] k h e = cc
among_all P (x ∷ xs) k h e = by_test (nat_eq k x) refl e (among_all P xs k h.1)
  where
    by_test : (b : Bool) → nat_eq k x ≡ b → (b || is_among xs k) ≡ true → (is_among xs k ≡ true → P k) → P k
    by_test true t m more = subst P (sym (equal_from k x t)) h.0
    by_test false t m more = more m

-- a number that no member is
pub none_all : (xs : List ℕ) (k : ℕ) → is_among xs k ≡ false → AllByRecursion (λ y. nat_eq k y ≡ false) xs
none_all [] k e = tt
none_all (x ∷ xs) k e = let n = or_none (nat_eq k x) (is_among xs k) e in (n.0, none_all xs k n.1)

pub all_none : (xs : List ℕ) (k : ℕ) → AllByRecursion (λ y. nat_eq k y ≡ false) xs → is_among xs k ≡ false
all_none [] k h = refl
all_none (x ∷ xs) k h = ap (λ (b : Bool). b || is_among xs k) h.0 ∙ all_none xs k h.1

-- where a member stands
pub among_at : (xs : List ℕ) (k : ℕ) → is_among xs k ≡ true → (front : List ℕ) × (back : List ℕ) × (xs ≡ front ++ k ∷ back)
among_at [] k e = cc
among_at (x ∷ xs) k e = by_test (nat_eq k x) refl e (among_at xs k)
  where
    by_test : (b : Bool) → nat_eq k x ≡ b → (b || is_among xs k) ≡ true → (is_among xs k ≡ true → (front : List ℕ) × (back : List ℕ) × (xs ≡ front ++ k ∷ back)) → (front : List ℕ) × (back : List ℕ) × (x ∷ xs ≡ front ++ k ∷ back)
    by_test true t m more = ([], xs, ap (λ (y : ℕ). y ∷ xs) (sym (equal_from k x t)))
    by_test false t m more = let s = more m in (x ∷ s.0, s.1, ap (λ (ys : List ℕ). x ∷ ys) s.2)

head_apart : (x : ℕ) (xs : List ℕ) (k : ℕ) → IsDistinct nat_eq (x ∷ xs) → nat_eq k x ≡ true → is_among xs k ≡ false
head_apart x xs k d t = ap (is_among xs) (equal_from k x t) ∙ all_none xs x (IsDistinct-head nat_eq x xs d)

-- the members but one
same_rest : (k : ℕ) (x : ℕ) (xs ys : List ℕ) → IsDistinct nat_eq (x ∷ xs) → IsDistinct nat_eq (x ∷ ys) → is_among (x ∷ xs) k ≡ is_among (x ∷ ys) k → is_among xs k ≡ is_among ys k
same_rest k x xs ys d e h = by_test (nat_eq k x) refl h
  where
    by_test : (b : Bool) → nat_eq k x ≡ b → (b || is_among xs k) ≡ (b || is_among ys k) → is_among xs k ≡ is_among ys k
    by_test true t m = head_apart x xs k d t ∙ sym (head_apart x ys k e t)
    by_test false t m = m

-- distinct numbers with the same members
pub same_members : (xs ys : List ℕ) → IsDistinct nat_eq xs → IsDistinct nat_eq ys → ((k : ℕ) → is_among xs k ≡ is_among ys k) → IsPermutation xs ys
same_members [] [] d e h = IsPermutation-refl []
same_members [] (y ∷ ys) d e h = let t = h y in let s = self_equal y in absurd (no (is_among ys y) (nat_eq y y) s t)
  where
    no : (a b : Bool) → b ≡ true → false ≡ (b || a) → ⊥
    no a b s t = cc
same_members (x ∷ xs) ys d e h =
    let there : is_among ys x ≡ true = sym (h x) ∙ or_left (nat_eq x x) (is_among xs x) (self_equal x) in
    let s = among_at ys x there in
    let moved : IsPermutation ys (x ∷ (s.0 ++ s.1)) = subst (λ (zs : List ℕ). IsPermutation zs (x ∷ (s.0 ++ s.1))) (sym s.2) (IsPermutation-middle s.0 x s.1) in
    let e' = IsDistinct-IsPermutation nat_eq nat_eq_equiv.symm ys (x ∷ (s.0 ++ s.1)) moved e in
    let rest = same_members xs (s.0 ++ s.1) (IsDistinct-tail nat_eq x xs d) (IsDistinct-tail nat_eq x (s.0 ++ s.1) e') (λ k. same_rest k x xs (s.0 ++ s.1) d e' (h k ∙ list_any-IsPermutation (nat_eq k) ys (x ∷ (s.0 ++ s.1)) moved)) in
    IsPermutation-trans (x ∷ xs) (x ∷ (s.0 ++ s.1)) ys (IsPermutation-cons x xs (s.0 ++ s.1) rest) (IsPermutation-sym ys (x ∷ (s.0 ++ s.1)) moved)

-- as many distinct numbers below n as there are: all of them
pub all_below : (n : ℕ) (ps : List ℕ) → IsDistinct nat_eq ps → ((q : ℕ) → is_among ps q ≡ true → q < n) → length ps ≡ n → (k : ℕ) → k < n → is_among ps k ≡ true
all_below n ps d within size k lt = by_test (is_among ps k) refl
  where
    below : (q : ℕ) → is_among (k ∷ ps) q ≡ true → q < n
    below q e = one (nat_eq q k) refl e
      where
        one : (b : Bool) → nat_eq q k ≡ b → (b || is_among ps q) ≡ true → q < n
        one true t m = let same : q ≡ k = equal_from q k t in omega arith
        one false t m = within q m

    by_test : (b : Bool) → is_among ps k ≡ b → b ≡ true
    by_test true t = refl
    by_test false t = let more : length (k ∷ ps) ≤ n = length-le_from_distinct_below (k ∷ ps) n (IsDistinct-cons nat_eq k ps (none_all ps k t) d) below in absurd (omega arith)

-- rising numbers with the same members are the same
less_from : (a b : ℕ) → nat_cmp a b ≡ Less → a < b
less_from a b e = grind (arith, nat_tests)

pub same_rising : (xs ys : List ℕ) → IsStrictlySortedBy nat_cmp xs → IsStrictlySortedBy nat_cmp ys → ((k : ℕ) → is_among xs k ≡ is_among ys k) → xs ≡ ys
same_rising [] [] a b h = refl
same_rising [] (y ∷ ys) a b h = let t = h y in let s = self_equal y in absurd (no (is_among ys y) (nat_eq y y) s t)
  where
    no : (a b : Bool) → b ≡ true → false ≡ (b || a) → ⊥
    no a b s t = cc
same_rising (x ∷ xs) [] a b h = let t = h x in let s = self_equal x in absurd (no (is_among xs x) (nat_eq x x) s t)
  where
    no : (a b : Bool) → b ≡ true → (b || a) ≡ false → ⊥
    no a b s t = cc
same_rising (x ∷ xs) (y ∷ ys) a b h =
    let same : x ≡ y = heads in
    let rest = same_rising xs ys (sorted_tail nat_cmp x xs a) (sorted_tail nat_cmp y ys b) (λ k. tails k same) in
    ap₂ (λ (z : ℕ) (zs : List ℕ). z ∷ zs) same rest
  where
    above : (z : ℕ) (zs : List ℕ) (k : ℕ) → IsStrictlySortedBy nat_cmp (z ∷ zs) → is_among (z ∷ zs) k ≡ true → z ≤ k
    above z zs k s m = one (nat_eq k z) refl m
      where
        one : (c : Bool) → nat_eq k z ≡ c → (c || is_among zs k) ≡ true → z ≤ k
        one true t n = let e : k ≡ z = equal_from k z t in omega arith
        one false t n = let lt : z < k = less_from z k (among_all (λ w. nat_cmp z w ≡ Less) zs k (sorted_head nat_cmp z zs s) n) in omega arith

    heads : x ≡ y
    heads =
        let p : y ≤ x = above y ys x b (sym (h x) ∙ or_left (nat_eq x x) (is_among xs x) (self_equal x)) in
        let q : x ≤ y = above x xs y a (h y ∙ or_left (nat_eq y y) (is_among ys y) (self_equal y)) in
        omega arith

    off : (z : ℕ) (zs : List ℕ) (k : ℕ) → IsStrictlySortedBy nat_cmp (z ∷ zs) → nat_eq k z ≡ true → (c : Bool) → is_among zs k ≡ c → c ≡ false
    off z zs k s t true m =
        let e : k ≡ z = equal_from k z t in
        let lt : z < k = less_from z k (among_all (λ w. nat_cmp z w ≡ Less) zs k (sorted_head nat_cmp z zs s) m) in
        absurd (omega arith)
    off z zs k s t false m = refl

    tails : (k : ℕ) → x ≡ y → is_among xs k ≡ is_among ys k
    tails k same = one (nat_eq k x) refl (h k)
      where
        one : (c : Bool) → nat_eq k x ≡ c → (c || is_among xs k) ≡ (nat_eq k y || is_among ys k) → is_among xs k ≡ is_among ys k
        one true t m = off x xs k a t (is_among xs k) refl ∙ sym (off y ys k b (ap (nat_eq k) (sym same) ∙ t) (is_among ys k) refl)
        one false t m = m ∙ ap (λ (c : Bool). c || is_among ys k) (ap (nat_eq k) (sym same) ∙ t)

-- Lists over which every sum is the same are permutations of one another.
abbrev one_if : ℕ → ℕ → ℕ
one_if x k = cond (nat_eq x k) 1 0

none_counted : (x : ℕ) (ys : List ℕ) → is_among ys x ≡ false → sum_by (one_if x) ys ≡ 0
none_counted x [] e = refl
none_counted x (y ∷ ys) e =
    let n = or_none (nat_eq x y) (is_among ys x) e in
    let z : one_if x y ≡ 0 = ap (λ (b : Bool). cond b 1 0) n.0 in
    omega (arith, sum_by-cons (one_if x) y ys, none_counted x ys n.1, z)

counted : (x : ℕ) (ys : List ℕ) → 0 < sum_by (one_if x) ys → is_among ys x ≡ true
counted x ys h = by_test (is_among ys x) refl
  where
    by_test : (b : Bool) → is_among ys x ≡ b → b ≡ true
    by_test true e = refl
    by_test false e = let z = none_counted x ys e in absurd (omega arith)

pub permutation_from_sums : (xs ys : List ℕ) → ((f : ℕ → ℕ) → sum_by f xs ≡ sum_by f ys) → IsPermutation xs ys
permutation_from_sums [] [] h = IsPermutation-refl []
permutation_from_sums [] (y ∷ ys) h = let e = h (λ k. 1) in absurd (omega (arith, e, sum_by-cons (λ (k : ℕ). 1) y ys))
permutation_from_sums (x ∷ xs) ys h =
    let one : one_if x x ≡ 1 = ap (λ (b : Bool). cond b 1 0) (self_equal x) in
    let some : 0 < sum_by (one_if x) ys = omega (arith, h (one_if x), sum_by-cons (one_if x) x xs, one) in
    let s = among_at ys x (counted x ys some) in
    let moved : IsPermutation ys (x ∷ (s.0 ++ s.1)) = subst (λ (zs : List ℕ). IsPermutation zs (x ∷ (s.0 ++ s.1))) (sym s.2) (IsPermutation-middle s.0 x s.1) in
    let rest = permutation_from_sums xs (s.0 ++ s.1) (λ f. less f (s.0) (s.1) (h f ∙ ap (sum_by f) s.2)) in
    IsPermutation-trans (x ∷ xs) (x ∷ (s.0 ++ s.1)) ys (IsPermutation-cons x xs (s.0 ++ s.1) rest) (IsPermutation-sym ys (x ∷ (s.0 ++ s.1)) moved)
  where
    less : (f : ℕ → ℕ) (front back : List ℕ) → sum_by f (x ∷ xs) ≡ sum_by f (front ++ x ∷ back) → sum_by f xs ≡ sum_by f (front ++ back)
    less f front back e = omega (arith, e, sum_by-cons f x xs, sum_by-append f front (x ∷ back), sum_by-cons f x back, sum_by-append f front back)
