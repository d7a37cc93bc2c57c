-- Rows that stand in lists.
use Rattle.std.proofs.Common.{◌≡◌, ◌≢◌, ◌⊎◌, ℕ, Bool, true, false, ◌&&◌, ◌||◌, if◌then◌else◌, nat_eq, List, [], ◌∷◌, ◌++◌, filter, refl, sym, ap, ◌∙◌, subst, inl, inr, true≢false, arith}
use Rattle.std.specs.List.{list_any}
use Rattle.std.proofs.lemmas.Bool.Decides.{nat_tests}
use Rattle.sp_locks.specs.declared.row.Row.{Row}
use Rattle.sp_locks.specs.Soundness.{In, Before}

pub in-left : (x : Row) (xs ys : List Row) → In x xs → In x (xs ++ ys)
in-left x [] ys h = absurd h
in-left x (y ∷ xs) ys (inl e) = inl e
in-left x (y ∷ xs) ys (inr i) = inr (in-left x xs ys i)

pub in-right : (x : Row) (xs ys : List Row) → In x ys → In x (xs ++ ys)
in-right x [] ys h = h
in-right x (y ∷ xs) ys h = inr (in-right x xs ys h)

pub in-split : (x : Row) (xs ys : List Row) → In x (xs ++ ys) → In x xs ⊎ In x ys
in-split x [] ys h = inr h
in-split x (y ∷ xs) ys (inl e) = inl (inl e)
in-split x (y ∷ xs) ys (inr i) = go (in-split x xs ys i)
  where
    go : In x xs ⊎ In x ys → In x (y ∷ xs) ⊎ In x ys
    go (inl j) = inl (inr j)
    go (inr j) = inr j

pub none-any : (test : Row → Bool) (xs : List Row) (x : Row) → list_any test xs ≡ false → In x xs → test x ≡ false
none-any test [] x none i = absurd i
none-any test (y ∷ ys) x none (inl e) = ap test (sym e) ∙ first (test y) (list_any test ys) none
  where
    first : (a b : Bool) → (a || b) ≡ false → a ≡ false
    first a b h = grind arith
none-any test (y ∷ ys) x none (inr i) = none-any test ys x (second (test y) (list_any test ys) none) i
  where
    second : (a b : Bool) → (a || b) ≡ false → b ≡ false
    second a b h = grind arith

pub in-kept : (test : Row → Bool) (x : Row) (xs : List Row) → In x xs → test x ≡ true → In x (filter test xs)
in-kept test x [] i k = absurd i
in-kept test x (y ∷ ys) (inl e) k = rw (subst (λ (z : Row). test z ≡ true) (sym e) k) (inl e)
in-kept test x (y ∷ ys) (inr i) k = go (test y) (in-kept test x ys i k)
  where
    go : (b : Bool) → In x (filter test ys) → In x (if b then y ∷ filter test ys else filter test ys)
    go true h = inr h
    go false h = h

pub of_kept : (test : Row → Bool) (x : Row) (xs : List Row) → In x (filter test xs) → In x xs × (test x ≡ true)
of_kept test x [] i = absurd i
of_kept test x (y ∷ ys) i = go (test y) refl i (of_kept test x ys)
  where
    go : (b : Bool) → test y ≡ b → In x (if b then y ∷ filter test ys else filter test ys) → (In x (filter test ys) → In x ys × (test x ≡ true)) → In x (y ∷ ys) × (test x ≡ true)
    go true k (inl e) rest = (inl e, subst (λ (z : Row). test z ≡ true) e k)
    go true k (inr j) rest = let r = rest j in (inr r.0, r.1)
    go false k j rest = let r = rest j in (inr r.0, r.1)

-- some row passes the test
pub of_any : (test : Row → Bool) (xs : List Row) → list_any test xs ≡ true → (x : Row) × In x xs × (test x ≡ true)
of_any test [] h = absurd (true≢false (sym h))
of_any test (y ∷ ys) h = go (of_any test ys) (test y) refl h
  where
    go : (list_any test ys ≡ true → (x : Row) × In x ys × (test x ≡ true)) → (b : Bool) → test y ≡ b → (b || list_any test ys) ≡ true → (x : Row) × In x (y ∷ ys) × (test x ≡ true)
    go rest true k l = (y, inl refl, k)
    go rest false k l = let r = rest l in (r.0, inr r.1, r.2)

pub to_any : (test : Row → Bool) (x : Row) (xs : List Row) → In x xs → test x ≡ true → list_any test xs ≡ true
to_any test x [] i k = absurd i
to_any test x (y ∷ ys) (inl e) k = first (test y) (list_any test ys) (subst (λ (z : Row). test z ≡ true) (sym e) k)
  where
    first : (a b : Bool) → a ≡ true → (a || b) ≡ true
    first a b h = grind arith
to_any test x (y ∷ ys) (inr i) k = second (test y) (list_any test ys) (to_any test x ys i k)
  where
    second : (a b : Bool) → b ≡ true → (a || b) ≡ true
    second a b h = grind arith

pub any-append : (test : Row → Bool) (xs ys : List Row) → list_any test (xs ++ ys) ≡ (list_any test xs || list_any test ys)
any-append test [] ys = refl
any-append test (x ∷ xs) ys = rw (any-append test xs ys) (three (test x) (list_any test xs) (list_any test ys))
  where
    three : (a b c : Bool) → (a || (b || c)) ≡ ((a || b) || c)
    three a b c = grind arith

pub first_of_both : (a b : Bool) → (a && b) ≡ true → a ≡ true
first_of_both a b h = grind arith

pub second_of_both : (a b : Bool) → (a && b) ≡ true → b ≡ true
second_of_both a b h = grind arith

pub both : (a b : Bool) → a ≡ true → b ≡ true → (a && b) ≡ true
both a b h k = grind arith

pub numbers-same : (a b : ℕ) → nat_eq a b ≡ true → a ≡ b
numbers-same a b h = grind (arith, nat_tests)

pub numbers-tell : (a b : ℕ) → a ≡ b → nat_eq a b ≡ true
numbers-tell a b h = grind (arith, nat_tests)

pub numbers-apart : (a b : ℕ) → a ≢ b → nat_eq a b ≡ false
numbers-apart a b h = grind (arith, nat_tests)

-- of two rows one stands first, unless they are the same
pub ordered : (x y : Row) (xs : List Row) → In x xs → In y xs → (x ≡ y) ⊎ (Before x y xs ⊎ Before y x xs)
ordered x y [] i j = absurd i
ordered x y (z ∷ xs) (inl e) (inl f) = inl (sym e ∙ f)
ordered x y (z ∷ xs) (inl e) (inr j) = inr (inl (inl (e, j)))
ordered x y (z ∷ xs) (inr i) (inl f) = inr (inr (inl (f, i)))
ordered x y (z ∷ xs) (inr i) (inr j) = go (ordered x y xs i j)
  where
    go : (x ≡ y) ⊎ (Before x y xs ⊎ Before y x xs) → (x ≡ y) ⊎ (Before x y (z ∷ xs) ⊎ Before y x (z ∷ xs))
    go (inl e) = inl e
    go (inr (inl b)) = inr (inl (inr b))
    go (inr (inr b)) = inr (inr (inr b))

pub before-in : (x y : Row) (xs : List Row) → Before x y xs → In x xs × In y xs
before-in x y [] h = absurd h
before-in x y (z ∷ xs) (inl h) = (inl h.0, inr h.1)
before-in x y (z ∷ xs) (inr h) = let k = before-in x y xs h in (inr k.0, inr k.1)

-- a filter keeps the order
pub before-kept : (test : Row → Bool) (x y : Row) (xs : List Row) → Before x y xs → test x ≡ true → test y ≡ true → Before x y (filter test xs)
before-kept test x y [] h s t = absurd h
before-kept test x y (z ∷ xs) (inl h) s t = rw (subst (λ (w : Row). test w ≡ true) (sym h.0) s) (inl (h.0, in-kept test y xs h.1 t))
before-kept test x y (z ∷ xs) (inr h) s t = go (test z) (before-kept test x y xs h s t)
  where
    go : (b : Bool) → Before x y (filter test xs) → Before x y (if b then z ∷ filter test xs else filter test xs)
    go true k = inr k
    go false k = k

pub before-filtered : (test : Row → Bool) (x y : Row) (xs : List Row) → Before x y (filter test xs) → Before x y xs
before-filtered test x y [] h = absurd h
before-filtered test x y (z ∷ xs) h = go (test z) (before-filtered test x y xs) h
  where
    go : (b : Bool) → (Before x y (filter test xs) → Before x y xs) → Before x y (if b then z ∷ filter test xs else filter test xs) → Before x y (z ∷ xs)
    go true old (inl k) = inl (k.0, (of_kept test y xs k.1).0)
    go true old (inr k) = inr (old k)
    go false old k = inr (old k)
