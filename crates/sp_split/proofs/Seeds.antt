-- The first pair that wastes most, among those that a scan has passed.
use Rattle.std.proofs.Common.{◌≡◌, ℕ, ◌+◌, ◌<◌, ◌≤◌, ◌⊎◌, inl, inr, ℤ, ◌≤ℤ◌, ◌<ℤ◌, List, length, sym, ap₂, subst, arith}
use Rattle.std.proofs.lemmas.Int.{ints}
use Rattle.std.proofs.lemmas.Bool.{cases_lt}
use Rattle.sp_rect.specs.Plane.{Rectangle}
use Rattle.sp_split.specs.Split.{waste, IsBefore, AreSeeds}

module _ (rects : List Rectangle) where
  -- a, b is best before i, j
  pub record Best (i j a b : ℕ) : Type 0 where
    pub ordered : a < b
    pub within : b < length rects
    pub most : (x y : ℕ) → x < y → y < length rects → IsBefore x y i j → waste rects x y ≤ℤ waste rects a b
    pub first : (x y : ℕ) → x < y → y < length rects → IsBefore x y a b → waste rects x y <ℤ waste rects a b

  pub best_start : 2 ≤ length rects → Best 0 0 0 1
  best_start h = record {
    ordered = omega arith;
    within = omega arith;
    most = λ x y lt len before. absurd (none x y before);
    first = λ x y lt len before. absurd (zero_one x y lt before);
  }
    where
      none : (x y : ℕ) → IsBefore x y 0 0 → ⊥
      none x y (inl h) = omega arith
      none x y (inr h) = omega (arith, h.1)

      zero_one : (x y : ℕ) → x < y → IsBefore x y 0 1 → ⊥
      zero_one x y lt (inl h) = omega arith
      zero_one x y lt (inr h) = omega (arith, h.0, h.1)

  module _ (i a b : ℕ) where
    pub best_row : Best i 0 a b → Best i (i + 1) a b
    best_row h = record { ordered = h.ordered; within = h.within; first = h.first; most = λ x y lt len before. h.most x y lt len (back x y lt before) }
      where
        back : (x y : ℕ) → x < y → IsBefore x y i (i + 1) → IsBefore x y i 0
        back x y lt (inl k) = inl k
        back x y lt (inr k) = absurd (omega (arith, k.0, k.1))

    pub best_next_row : (n : ℕ) → length rects ≤ n → Best i n a b → Best (i + 1) 0 a b
    best_next_row n le h = record { ordered = h.ordered; within = h.within; first = h.first; most = λ x y lt len before. h.most x y lt len (back x y len before) }
      where
        back : (x y : ℕ) → y < length rects → IsBefore x y (i + 1) 0 → IsBefore x y i n
        back x y len (inl k) = elim (cases_lt x i) [ inl l ↦ inl l | inr l ↦ inr (omega arith, omega arith) ]
        back x y len (inr k) = absurd (omega (arith, k.1))

    module _ (j : ℕ) (h : Best i j a b) where
      step : (x y : ℕ) → IsBefore x y i (j + 1) → IsBefore x y i j ⊎ ((x ≡ i) × (y ≡ j))
      step x y (inl k) = inl (inl k)
      step x y (inr k) = elim (cases_lt y j) [ inl l ↦ inl (inr (k.0, l)) | inr l ↦ inr (k.0, omega (arith, k.1)) ]

      same_waste : (x y : ℕ) → x ≡ i → y ≡ j → waste rects x y ≡ waste rects i j
      same_waste x y e f = ap₂ (waste rects) e f

      pub best_kept : waste rects i j ≤ℤ waste rects a b → Best i (j + 1) a b
      best_kept le = record {
        ordered = h.ordered;
        within = h.within;
        first = h.first;
        most = λ x y lt len before. elim (step x y before) [ inl k ↦ h.most x y lt len k | inr k ↦ let s = same_waste x y k.0 k.1 in subst (λ (z : ℤ). z ≤ℤ waste rects a b) (sym s) le ];
      }

      pub best_new : waste rects a b <ℤ waste rects i j → i < j → j < length rects → Best i (j + 1) i j
      best_new lt ij len = record {
        ordered = ij;
        within = len;
        most = λ x y xy yl before. elim (step x y before) [ inl k ↦ let m = h.most x y xy yl k in omega (arith, ints) | inr k ↦ let s = same_waste x y k.0 k.1 in subst (λ (z : ℤ). z ≤ℤ waste rects i j) (sym s) (omega (arith, ints)) ];
        first = λ x y xy yl before. let m = h.most x y xy yl before in omega (arith, ints);
      }

  pub best_all : (a b : ℕ) → Best (length rects) 0 a b → AreSeeds rects a b
  best_all a b h = record { ordered = h.ordered; within = h.within; most = λ x y xy yl. h.most x y xy yl (inl (omega arith)); first = h.first }
