-- The first position with the greatest difference, among those that a scan has passed.
use Rattle.std.proofs.Common.{◌≡◌, ℕ, ◌+◌, ◌<◌, inl, inr, ◌≤ℤ◌, ◌<ℤ◌, Bool, true, false, List, length, get_or, ap, ◌∙◌, subst, arith}
use Rattle.std.proofs.lemmas.Int.{ints}
use Rattle.std.proofs.lemmas.Bool.{cases_lt}
use Rattle.sp_rect.specs.Plane.{Rectangle}
use Rattle.sp_split.specs.Split.{preference}

module _ (rects : List Rectangle) (a b : Rectangle) (placed : List Bool) where
  pub record IsBest (i best : ℕ) : Type 0 where
    pub within : best < length rects
    pub free : get_or placed best true ≡ false
    pub most : (q : ℕ) → q < i → get_or placed q true ≡ false → preference rects a b q ≤ℤ preference rects a b best
    pub least : (q : ℕ) → q < best → get_or placed q true ≡ false → preference rects a b q <ℤ preference rects a b best

  never : (t : Bool) → t ≡ true → t ≡ false → ⊥
  never t e f = cc

  pub best_start : (p : ℕ) → p < length rects → get_or placed p true ≡ false → ((k : ℕ) → k < p → get_or placed k true ≡ true) → IsBest p p
  best_start p lt e before = record { within = lt; free = e; most = λ q l f. absurd (never _ (before q l) f); least = λ q l f. absurd (never _ (before q l) f) }

  module _ (i best : ℕ) (h : IsBest i best) where
    pub best_passed : get_or placed i true ≡ true → IsBest (i + 1) best
    best_passed e = record { within = h.within; free = h.free; least = h.least; most = λ q lt f. elim (cases_lt q i) [ inl l ↦ h.most q l f | inr l ↦ let same : q ≡ i = omega arith in absurd (never _ (ap (λ (k : ℕ). get_or placed k true) same ∙ e) f) ] }

    pub best_kept : preference rects a b i ≤ℤ preference rects a b best → IsBest (i + 1) best
    best_kept le = record { within = h.within; free = h.free; least = h.least; most = λ q lt f. elim (cases_lt q i) [ inl l ↦ h.most q l f | inr l ↦ let same : i ≡ q = omega arith in subst (λ (k : ℕ). preference rects a b k ≤ℤ preference rects a b best) same le ] }

    pub best_new : i < length rects → get_or placed i true ≡ false → preference rects a b best <ℤ preference rects a b i → IsBest (i + 1) i
    best_new len e lt = record {
      within = len;
      free = e;
      most = λ q qi f. elim (cases_lt q i) [ inl l ↦ let m = h.most q l f in omega (arith, ints) | inr l ↦ let same : i ≡ q = omega arith in subst (λ (k : ℕ). preference rects a b k ≤ℤ preference rects a b i) same (omega (arith, ints)) ];
      least = λ q qi f. let m = h.most q qi f in omega (arith, ints);
    }
