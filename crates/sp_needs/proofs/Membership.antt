-- Membership: by cases, by place and as a test; and numbers in order, each once.
use Rattle.std.proofs.Common.{◌≡◌, ℕ, zero, suc, ◌+◌, ◌<◌, Bool, true, false, ◌||◌, ◌↔◌, List, [], ◌∷◌, ◌++◌, length, take, get_or, refl, sym, ap, ◌∙◌, subst, arith, inl, inr, ◌⊎◌}
use Rattle.std.specs.Prelude.{nat_eq}
use Rattle.std.specs.List.{Contains, list_any, dedup}
use Rattle.std.specs.List.Sorted.{IsPermutation}
use Rattle.std.proofs.lemmas.Bool.Decides.{nat_tests}
use Rattle.std.proofs.lemmas.List.{take_more}
use Rattle.std.proofs.lemmas.List.Kept.{Contains-dedup_nat, Contains-from_dedup}
use Rattle.std.proofs.lemmas.List.Sorted.{Contains-permutation, IsPermutation-sym}
use Rattle.sp_node.specs.Among.{Among}
use Rattle.sp_node.proofs.Among.{among_left, among_right, among_split}

pub self_equal : (k : ℕ) → nat_eq k k ≡ true
self_equal k = grind (arith, nat_tests)

pub equal_from : (j k : ℕ) → nat_eq j k ≡ true → j ≡ k
equal_from j k e = grind (arith, nat_tests)

pub apart_from : (j k : ℕ) → nat_eq j k ≡ false → j ≡ k → ⊥
apart_from j k e same = grind (arith, nat_tests)

module _ {X : Type 0} where
  pub contains_from_among : (xs : List X) (x : X) → Among x xs → Contains xs x
  contains_from_among [] x a = absurd a
  contains_from_among (y ∷ ys) x (inl e) = (0, omega arith, sym e)
  contains_from_among (y ∷ ys) x (inr a) = let more = contains_from_among ys x a in (suc more.0, omega (arith, more.1), more.2)

  pub among_from_contains : (xs : List X) (x : X) → Contains xs x → Among x xs
  among_from_contains [] x c = absurd (omega (arith, c.1))
  among_from_contains (y ∷ ys) x c = at c.0 c.1 c.2 (among_from_contains ys x)
    where
      at : (i : ℕ) → i < length (y ∷ ys) → get_or (y ∷ ys) i x ≡ x → (Contains ys x → Among x ys) → Among x (y ∷ ys)
      at zero lt e f = inl (sym e)
      at (suc i) lt e f = inr (f (i, omega (arith, lt), e))

-- sorted and each once, they have the same members
pub same_members : (xs ys : List ℕ) (n : ℕ) → IsPermutation xs ys → Among n (dedup nat_eq ys) ↔ Among n xs
same_members xs ys n p = (
  λ a. among_from_contains xs n (Contains-permutation ys xs n (IsPermutation-sym xs ys p) (Contains-from_dedup nat_eq ys n (contains_from_among (dedup nat_eq ys) n a))),
  λ a. among_from_contains (dedup nat_eq ys) n (Contains-dedup_nat ys n (Contains-permutation xs ys n p (contains_from_among xs n a))),
)

-- a number is found among them where the test finds it
pub any_among : (n : ℕ) (xs : List ℕ) → list_any (nat_eq n) xs ≡ true → Among n xs
any_among n [] h = cc
any_among n (x ∷ xs) h = by_test (nat_eq n x) refl h (any_among n xs)
  where
    by_test : (b : Bool) → nat_eq n x ≡ b → (b || list_any (nat_eq n) xs) ≡ true → (list_any (nat_eq n) xs ≡ true → Among n xs) → Among n (x ∷ xs)
    by_test true e h f = inl (equal_from n x e)
    by_test false e h f = inr (f h)

or_left : (b c : Bool) → b ≡ true → (b || c) ≡ true
or_left true c e = refl
or_left false c e = cc

or_right : (b c : Bool) → c ≡ true → (b || c) ≡ true
or_right true c e = refl
or_right false c e = e

-- a test that one of them passes
module _ {X : Type 0} (f : X → Bool) where
  pub any_from : (xs : List X) (x : X) → Among x xs → f x ≡ true → list_any f xs ≡ true
  any_from [] x a h = absurd a
  any_from (y ∷ ys) x (inl e) h = or_left (f y) (list_any f ys) (ap f (sym e) ∙ h)
  any_from (y ∷ ys) x (inr a) h = or_right (f y) (list_any f ys) (any_from ys x a h)

  pub some_passes : (xs : List X) → list_any f xs ≡ true → (x : X) × Among x xs × (f x ≡ true)
  some_passes [] h = cc
  some_passes (y ∷ ys) h = by_test (f y) refl h (some_passes ys)
    where
      by_test : (b : Bool) → f y ≡ b → (b || list_any f ys) ≡ true → (list_any f ys ≡ true → (x : X) × Among x ys × (f x ≡ true)) → (x : X) × Among x (y ∷ ys) × (f x ≡ true)
      by_test true e h g = (y, inl refl, e)
      by_test false e h g = let more = g h in (more.0, inr more.1, more.2)

pub among_any : (n : ℕ) (xs : List ℕ) → Among n xs → list_any (nat_eq n) xs ≡ true
among_any n xs a = any_from (nat_eq n) xs n a (self_equal n)

-- the step of a loop over a list
module _ {X : Type 0} (xs : List X) (i : ℕ) (x : X) (within : i < length xs) (is : x ≡ get_or xs i x) where
  pub one_more : take (i + 1) xs ≡ take i xs ++ x ∷ []
  one_more = take_more xs i x within ∙ ap (λ (y : X). take i xs ++ y ∷ []) (sym is)

  pub here : (y : X) → Among y (take (i + 1) xs) → Among y (take i xs) ⊎ (y ≡ x)
  here y a = elim (among_split y (take i xs) (x ∷ []) (subst (Among y) one_more a)) [
    | inl b ↦ inl b
    | inr (inl e) ↦ inr e
    | inr (inr b) ↦ absurd b
  ]

  pub still : (y : X) → Among y (take i xs) → Among y (take (i + 1) xs)
  still y a = subst (Among y) (sym one_more) (among_left y (take i xs) (x ∷ []) a)

  pub last : Among x (take (i + 1) xs)
  last = subst (Among x) (sym one_more) (among_right x (take i xs) (x ∷ []) (inl refl))

-- a member at a place within the list is the same whatever stands for one behind it
pub member_at : (xs : List ℕ) (i : ℕ) → i < length xs → get_or xs i 0 ≡ get_or xs i (get_or xs i 0)
member_at [] i lt = absurd (omega arith)
member_at (x ∷ xs) zero lt = refl
member_at (x ∷ xs) (suc i) lt = member_at xs i (omega arith)

pub clash : (b : Bool) → b ≡ true → b ≡ false → ⊥
clash b e f = cc
