-- Entries of a leaf by their numbers.
use Rattle.std.proofs.Common.{◌≡◌, ℕ, zero, suc, ◌+◌, ◌<◌, Bool, true, false, ◌||◌, List, [], ◌∷◌, length, take, get_or, slice_get, slice_set, cond, Some, refl, ap, sym, ◌∙◌, arith, add-one, inl, inr}
use Rattle.std.specs.Prelude.{nat_eq}
use Rattle.std.proofs.lemmas.Bool.Decides.{nat_tests}
use Rattle.sp_node.specs.declared.node.Entry.{Entry}
use Rattle.sp_node.specs.Among.{Among}
use Rattle.sp_node.specs.Index.{has_number}
use Rattle.sp_node.specs.First.{first_changed, IsPlaceOf}

differs : (q n : ℕ) → ¬ (n ≡ q) → nat_eq q n ≡ false
differs q n h = grind (arith, nat_tests)

self_equal : (k : ℕ) → nat_eq k k ≡ true
self_equal k = grind (arith, nat_tests)

pub has_from_among : (e : Entry) (es : List Entry) → Among e es → has_number es e.number ≡ true
has_from_among e [] a = absurd a
has_from_among e (x ∷ es) (inl same) = ap (λ (b : Bool). b || has_number es e.number) (ap (λ (y : Entry). nat_eq e.number y.number) (sym same) ∙ self_equal e.number)
has_from_among e (x ∷ es) (inr a) = or_true (nat_eq e.number x.number) (has_number es e.number) (has_from_among e es a)
  where
    or_true : (b c : Bool) → c ≡ true → (b || c) ≡ true
    or_true true c h = refl
    or_true false c h = h

-- one more entry of another number
one_more : (q i : ℕ) (es : List Entry) (e : Entry) → i < length es → e ≡ get_or es i e → ¬ (e.number ≡ q) → has_number (take i es) q ≡ false → has_number (take (suc i) es) q ≡ false
one_more q i [] e lt is h n = absurd (omega arith)
one_more q zero (x ∷ es) e lt is h n = ap (λ (b : Bool). b || false) (ap (λ (y : Entry). nat_eq q y.number) (sym is) ∙ differs q e.number h)
one_more q (suc i) (x ∷ es) e lt is h n = by_test (nat_eq q x.number) n (one_more q i es e (omega arith) is h)
  where
    by_test : (b : Bool) → (b || has_number (take i es) q) ≡ false → (has_number (take i es) q ≡ false → has_number (take (suc i) es) q ≡ false) → (b || has_number (take (suc i) es) q) ≡ false
    by_test true n f = cc
    by_test false n f = f n

pub none_more : (q i : ℕ) (es : List Entry) (e : Entry) → i < length es → e ≡ get_or es i e → ¬ (e.number ≡ q) → has_number (take i es) q ≡ false → has_number (take (i + 1) es) q ≡ false
none_more q i es e lt is h n = ap (λ k. has_number (take k es) q) (add-one i) ∙ one_more q i es e lt is h n

-- a change of the first entry of a number
module _ (q : ℕ) (change : Entry → Entry) where
  pub first_none : (es : List Entry) → has_number es q ≡ false → first_changed q change es ≡ es
  first_none [] h = refl
  first_none (e ∷ es) h = by_test (nat_eq q e.number) h (first_none es)
    where
      by_test : (b : Bool) → (b || has_number es q) ≡ false → (has_number es q ≡ false → first_changed q change es ≡ es) → cond b (change e ∷ es) (e ∷ first_changed q change es) ≡ e ∷ es
      by_test true h f = cc
      by_test false h f = ap (λ (xs : List Entry). e ∷ xs) (f h)

  here : (e x : Entry) (es : List Entry) → Some e ≡ Some x → x.number ≡ q → nat_eq q e.number ≡ true
  here e x es is named = let same : e ≡ x = cc in ap (λ (y : Entry). nat_eq q y.number) same ∙ self_equal q x.number named
    where
      self_equal : (k n : ℕ) → n ≡ k → nat_eq k n ≡ true
      self_equal k n e = grind (arith, nat_tests)

  set_here : (es : List Entry) (at : ℕ) (e : Entry) → slice_get es at ≡ Some e → e.number ≡ q → has_number (take at es) q ≡ false → first_changed q change es ≡ slice_set es at (change e)
  set_here [] at e is named first = cc
  set_here (x ∷ es) zero e is named first =
      let same : x ≡ e = cc in
      ap (λ (b : Bool). cond b (change x ∷ es) (x ∷ first_changed q change es)) (here x e es is named) ∙ ap (λ (y : Entry). change y ∷ es) same
  set_here (x ∷ es) (suc at) e is named first = by_test (nat_eq q x.number) first (set_here es at e is named)
    where
      by_test : (b : Bool) → (b || has_number (take at es) q) ≡ false → (has_number (take at es) q ≡ false → first_changed q change es ≡ slice_set es at (change e)) → cond b (change x ∷ es) (x ∷ first_changed q change es) ≡ x ∷ slice_set es at (change e)
      by_test true h f = cc
      by_test false h f = ap (λ (xs : List Entry). x ∷ xs) (f h)

  pub first_set : (es : List Entry) (at : ℕ) (p : IsPlaceOf q es at) → first_changed q change es ≡ slice_set es at (change p.entry)
  first_set es at p = set_here es at p.entry p.is p.named p.first

  pub there : (es : List Entry) (at : ℕ) (p : IsPlaceOf q es at) (e : Entry) → e ≡ get_or es at e → e ≡ p.entry
  there es at p e is = read es at p.entry e p.is is
    where
      read : (es : List Entry) (at : ℕ) (x e : Entry) → slice_get es at ≡ Some x → e ≡ get_or es at e → e ≡ x
      read [] at x e g is = cc
      read (y ∷ es) zero x e g is = let same : y ≡ x = cc in is ∙ same
      read (y ∷ es) (suc at) x e g is = read es at x e g is
