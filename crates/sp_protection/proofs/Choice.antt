-- Whether one of a list passes a test.
use Rattle.std.proofs.Common.{◌≡◌, ◌⊎◌, ℕ, Bool, true, false, List, [], ◌∷◌, nat_eq, refl, sym, subst, inl, inr, arith}
use Rattle.std.proofs.lemmas.Bool.Decides.{nat_tests}
use Rattle.sp_node.specs.Among.{Among}

-- one of the list passes the test, or none does
pub some_or_none : {A : Type 0} (test : A → Bool) (xs : List A) → ((x : A) × Among x xs × (test x ≡ true)) ⊎ ((x : A) → Among x xs → test x ≡ false)
some_or_none test [] = inr (λ x h. absurd h)
some_or_none {A} test (y ∷ ys) = go (test y) refl (some_or_none test ys)
  where
    go : (b : Bool) → test y ≡ b → ((x : A) × Among x ys × (test x ≡ true)) ⊎ ((x : A) → Among x ys → test x ≡ false)
        → ((x : A) × Among x (y ∷ ys) × (test x ≡ true)) ⊎ ((x : A) → Among x (y ∷ ys) → test x ≡ false)
    go true e rest = inl (y, inl refl, e)
    go false e (inl h) = inl (h.0, inr h.1, h.2)
    go false e (inr h) = inr none
      where
        none : (x : A) → Among x (y ∷ ys) → test x ≡ false
        none x (inl s) = subst (λ z. test z ≡ false) (sym s) e
        none x (inr k) = h x k

pub same : (a b : ℕ) → nat_eq a b ≡ true → a ≡ b
same a b h = grind (arith, nat_tests)

pub tells : (a b : ℕ) → a ≡ b → nat_eq a b ≡ true
tells a b h = grind (arith, nat_tests)
