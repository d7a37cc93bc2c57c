-- The best child among those that a scan has passed.
use Rattle.std.specs.Bool.{MatchBool}
use Rattle.std.proofs.Common.{Bool, true, false, ◌≡◌, ℕ, ℤ, zero, suc, ◌+◌, ◌<◌, ◌≤◌, inl, inr, List, [], ◌∷◌, length, take, drop, get_or, sym, ◌∙◌, subst, arith}
use Rattle.std.specs.List.{AllByRecursion}
use Rattle.std.proofs.lemmas.Int.{ints}
use Rattle.std.proofs.lemmas.Bool.{cases_lt}
use Rattle.sp_rect.specs.Plane.{Rectangle, whole, area, growth}
use Rattle.sp_grow.specs.Chosen.{IsLess, IsAtMost, IsBetter, IsAsGood, IsChosen}

module _ (P : Rectangle → Type 0) where
  pub all_take : (xs : List Rectangle) (n : ℕ) → ((j : ℕ) → j < n → j < length xs → P (get_or xs j whole)) → AllByRecursion P (take n xs)
  all_take [] zero h = tt
  all_take [] (suc n) h = tt
  all_take (x ∷ xs) zero h = tt
  all_take (x ∷ xs) (suc n) h = (h 0 (omega arith) (omega arith), all_take xs n (λ j lt len. h (suc j) (omega arith) (omega arith)))

  all_of : (xs : List Rectangle) → ((j : ℕ) → j < length xs → P (get_or xs j whole)) → AllByRecursion P xs
  all_of [] h = tt
  all_of (x ∷ xs) h = (h 0 (omega arith), all_of xs (λ j len. h (suc j) (omega arith)))

  pub all_drop : (xs : List Rectangle) (n : ℕ) → ((j : ℕ) → n ≤ j → j < length xs → P (get_or xs j whole)) → AllByRecursion P (drop n xs)
  all_drop [] zero h = tt
  all_drop [] (suc n) h = tt
  all_drop (x ∷ xs) zero h = all_of (x ∷ xs) (λ j len. h j (omega arith) len)
  all_drop (x ∷ xs) (suc n) h = all_drop xs n (λ j le len. h (suc j) (omega arith) (omega arith))

module _ (q : Rectangle) where
  -- a better one than a better one, or than one that is as good
  through : (a b c : Rectangle) → IsBetter q a b → IsBetter q b c → IsBetter q a c
  through a b c (inl h) (inl k) = inl (omega (arith, ints))
  through a b c (inl h) (inr k) = inl (omega (arith, ints, k.0))
  through a b c (inr h) (inl k) = inl (omega (arith, ints, h.0))
  through a b c (inr h) (inr k) = inr (h.0 ∙ k.0, omega (arith, ints, h.1, k.1))

  better_than : (a b c : Rectangle) → IsBetter q a b → IsAsGood q b c → IsBetter q a c
  better_than a b c (inl h) (inl k) = inl (omega (arith, ints))
  better_than a b c (inl h) (inr k) = inl (omega (arith, ints, k.0))
  better_than a b c (inr h) (inl k) = inl (omega (arith, ints, h.0))
  better_than a b c (inr h) (inr k) = inr (h.0 ∙ k.0, omega (arith, ints, h.1, k.1))

  -- what q costs the rectangle a
  pub record Costs (a : Rectangle) (g x : ℤ) : Type 0 where
    pub growth : g ≡ growth a q
    pub area : x ≡ area a

  is_better : (a b : Rectangle) (g x h y : ℤ) → Costs a g x → Costs b h y → IsLess g x h y → IsBetter q a b
  is_better a b g x h y c d (inl l) = inl (omega (arith, ints, c.growth, d.growth))
  is_better a b g x h y c d (inr l) = inr (sym c.growth ∙ l.0 ∙ d.growth, omega (arith, ints, l.1, c.area, d.area))

  as_good : (a b : Rectangle) (g x h y : ℤ) → Costs a g x → Costs b h y → IsAtMost g x h y → IsAsGood q a b
  as_good a b g x h y c d (inl l) = inl (omega (arith, ints, c.growth, d.growth))
  as_good a b g x h y c d (inr l) = inr (sym c.growth ∙ l.0 ∙ d.growth, omega (arith, ints, l.1, c.area, d.area))

  module _ (rects : List Rectangle) where
    abbrev pub nth : ℕ → Rectangle
    nth j = get_or rects j whole

    pub record Best (i best : ℕ) (g x : ℤ) : Type 0 where
      pub within : best < length rects
      pub costs : Costs (nth best) g x
      pub before : (j : ℕ) → j < best → IsBetter q (nth best) (nth j)
      pub after : (j : ℕ) → best < j → j < i → IsAsGood q (nth best) (nth j)

    pub best_start : 0 < length rects → (g x : ℤ) → Costs (nth 0) g x → Best 1 0 g x
    best_start h g x costs = record { within = h; costs = costs; before = λ j lt. absurd (omega arith); after = λ j lt il. absurd (omega arith) }

    module _ (i best : ℕ) (g x : ℤ) (h : Best i best g x) (g' x' : ℤ) (costs : Costs (nth i) g' x') where
      pub best_kept : IsAtMost g x g' x' → Best (i + 1) best g x
      best_kept most =
          let good : IsAsGood q (nth best) (nth i) = as_good (nth best) (nth i) g x g' x' h.costs costs most in
          record { within = h.within; costs = h.costs; before = h.before; after = λ j lt le. elim (cases_lt j i) [ inl l ↦ h.after j lt l | inr l ↦ let same : i ≡ j = omega arith in subst (λ (k : ℕ). IsAsGood q (nth best) (nth k)) same good ] }

      pub best_new : i < length rects → IsLess g' x' g x → Best (i + 1) i g' x'
      best_new len less =
          let better : IsBetter q (nth i) (nth best) = is_better (nth i) (nth best) g' x' g x costs h.costs less in
          record {
            within = len;
            costs = costs;
            before = λ j lt. elim (cases_lt j best) [
              | inl l ↦ through (nth i) (nth best) (nth j) better (h.before j l)
              | inr l ↦ elim (cases_lt best j) [
                | inl m ↦ better_than (nth i) (nth best) (nth j) better (h.after j m lt)
                | inr m ↦ let same : best ≡ j = omega arith in subst (λ (k : ℕ). IsBetter q (nth i) (nth k)) same better
              ]
            ];
            after = λ j lt le. absurd (omega arith);
          }

    pub best_all : (best : ℕ) (g x : ℤ) → Best (length rects) best g x → IsChosen (take best rects) (nth best) (drop (best + 1) rects) q
    best_all best g x h = (all_take (λ a. IsBetter q (nth best) a) rects best (λ j lt len. h.before j lt), all_drop (λ a. IsAsGood q (nth best) a) rects (best + 1) (λ j le len. h.after j (omega arith) len))

pub yes : (P Q : Type 0) (b : Bool) → b ≡ true → MatchBool b P Q → P
yes P Q b e m = subst (λ (x : Bool). MatchBool x P Q) e m

pub no : (P Q : Type 0) (b : Bool) → b ≡ false → MatchBool b P Q → Q
no P Q b e m = subst (λ (x : Bool). MatchBool x P Q) e m
