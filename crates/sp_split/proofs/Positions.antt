-- The groups of a split are all positions of the list, each once.
use Rattle.std.proofs.Common.{◌≡◌, ℕ, ◌+◌, ◌<◌, ◌≤◌, Bool, true, false, ◌||◌, not, List, [], ◌∷◌, ◌++◌, length, refl, sym, ap, ◌∙◌, subst, arith, append_assoc}
use Rattle.std.specs.Prelude.{nat_eq}
use Rattle.std.specs.List.{IsDistinct}
use Rattle.std.specs.List.Sorted.{IsPermutation}
use Rattle.std.proofs.lemmas.Cmp.{nat_eq_equiv}
use Rattle.std.proofs.lemmas.List.{length-append}
use Rattle.std.proofs.lemmas.List.Folds.{list_any-append}
use Rattle.std.proofs.lemmas.List.Sorted.{IsPermutation-sym, IsPermutation-middle, IsPermutation-to_front, IsPermutation-append, list_any-IsPermutation}
use Rattle.std.proofs.lemmas.Map.Keys.{IsDistinct-cons, IsDistinct-head, IsDistinct-tail, IsDistinct-IsPermutation, IsDistinct-from_apart}
use Rattle.sp_rect.specs.Plane.{Rectangle}
use Rattle.sp_split.specs.Split.{is_among, Formed, seeded, to_first, to_second, Splits}
use Rattle.sp_split.proofs.Members.{none_all, all_none, all_below, or_left, or_true, equal_from, unequal_from}

-- no member of one part is one of the other
not_twice : (f s : List ℕ) (q : ℕ) → IsDistinct nat_eq (f ++ s) → is_among f q ≡ true → is_among s q ≡ true → ⊥
not_twice [] s q d e h = cc
not_twice (x ∷ f) s q d e h = by_test (nat_eq q x) refl e (not_twice f s q (IsDistinct-tail nat_eq x (f ++ s) d))
  where
    by_test : (b : Bool) → nat_eq q x ≡ b → (b || is_among f q) ≡ true → (is_among f q ≡ true → is_among s q ≡ true → ⊥) → ⊥
    by_test true t m more =
        let off : is_among (f ++ s) x ≡ false = all_none (f ++ s) x (IsDistinct-head nat_eq x (f ++ s) d) in
        let there : is_among (f ++ s) x ≡ true = list_any-append (nat_eq x) f s ∙ ap (λ (b : Bool). is_among f x || b) (ap (is_among s) (sym (equal_from q x t)) ∙ h) ∙ or_true (is_among f x) in
        cc
    by_test false t m more = more m h

module _ (rects : List Rectangle) where
  module _ (min : ℕ) where
    -- the positions of both groups differ and are positions of the list
    pub record Positions (f s : List ℕ) : Type 0 where
      pub distinct : IsDistinct nat_eq (f ++ s)
      pub within : (q : ℕ) → is_among (f ++ s) q ≡ true → q < length rects

    one_other : (n p : ℕ) (xs : List ℕ) → p < n → ((q : ℕ) → is_among xs q ≡ true → q < n) → (q : ℕ) (b : Bool) → nat_eq q p ≡ b → (b || is_among xs q) ≡ true → q < n
    one_other n p xs lt h q true e m = let same : q ≡ p = equal_from q p e in omega arith
    one_other n p xs lt h q false e m = h q m

    pub positions : (f s : List ℕ) → Formed rects min f s → Positions f s
    positions f s (seeded i j x) =
        let ij : i < j = x.ordered in
        let jn : j < length rects = x.within in
        record {
          distinct = IsDistinct-cons nat_eq i (j ∷ []) (unequal_from i j (λ (e : i ≡ j). omega arith), tt) (IsDistinct-from_apart nat_eq (j ∷ []) (λ a b d lt len. absurd (omega arith)));
          within = λ q m. one_other (length rects) i (j ∷ []) (omega arith) (λ r k. one_other (length rects) j [] jn (λ u (v : false ≡ true). cc) r (nat_eq r j) refl k) q (nat_eq q i) refl m;
        }
    positions f s (to_first first second p formed fresh goes) =
        let h = positions first second formed in
        let shape : (first ++ p ∷ []) ++ second ≡ first ++ p ∷ second = append_assoc first (p ∷ []) second in
        let moved : IsPermutation ((first ++ p ∷ []) ++ second) (p ∷ (first ++ second)) = subst (λ (xs : List ℕ). IsPermutation xs (p ∷ (first ++ second))) (sym shape) (IsPermutation-middle first p second) in
        let off : is_among (first ++ second) p ≡ false = list_any-append (nat_eq p) first second ∙ both_false (is_among first p) (is_among second p) fresh.not_first fresh.not_second in
        record {
          distinct = IsDistinct-IsPermutation nat_eq nat_eq_equiv.symm (p ∷ (first ++ second)) ((first ++ p ∷ []) ++ second) (IsPermutation-sym ((first ++ p ∷ []) ++ second) (p ∷ (first ++ second)) moved) (IsDistinct-cons nat_eq p (first ++ second) (none_all (first ++ second) p off) h.distinct);
          within = λ q m. one_other (length rects) p (first ++ second) fresh.within h.within q (nat_eq q p) refl (sym (list_any-IsPermutation (nat_eq q) ((first ++ p ∷ []) ++ second) (p ∷ (first ++ second)) moved) ∙ m);
        }
      where
        both_false : (a b : Bool) → a ≡ false → b ≡ false → (a || b) ≡ false
        both_false a b e d = cc
    positions f s (to_second first second p formed fresh goes) =
        let h = positions first second formed in
        let shape : first ++ (second ++ p ∷ []) ≡ (first ++ second) ++ p ∷ [] = sym (append_assoc first second (p ∷ [])) in
        let moved : IsPermutation (first ++ (second ++ p ∷ [])) (p ∷ (first ++ second)) = subst (λ (xs : List ℕ). IsPermutation xs (p ∷ (first ++ second))) (sym shape) (IsPermutation-to_front (first ++ second) p) in
        let off : is_among (first ++ second) p ≡ false = list_any-append (nat_eq p) first second ∙ both_false (is_among first p) (is_among second p) fresh.not_first fresh.not_second in
        record {
          distinct = IsDistinct-IsPermutation nat_eq nat_eq_equiv.symm (p ∷ (first ++ second)) (first ++ (second ++ p ∷ [])) (IsPermutation-sym (first ++ (second ++ p ∷ [])) (p ∷ (first ++ second)) moved) (IsDistinct-cons nat_eq p (first ++ second) (none_all (first ++ second) p off) h.distinct);
          within = λ q m. one_other (length rects) p (first ++ second) fresh.within h.within q (nat_eq q p) refl (sym (list_any-IsPermutation (nat_eq q) (first ++ (second ++ p ∷ [])) (p ∷ (first ++ second)) moved) ∙ m);
        }
      where
        both_false : (a b : Bool) → a ≡ false → b ≡ false → (a || b) ≡ false
        both_false a b e d = cc

    -- the two groups of a split have each position once
    pub split_positions : (first second : List ℕ) → Splits rects min first second → Positions first second
    split_positions first second s =
        let p = positions s.in_order s.in_order' s.formed in
        let moved = IsPermutation-append s.in_order first s.in_order' second s.same s.same' in
        record {
          distinct = IsDistinct-IsPermutation nat_eq nat_eq_equiv.symm (s.in_order ++ s.in_order') (first ++ second) moved p.distinct;
          within = λ q m. p.within q (list_any-IsPermutation (nat_eq q) (s.in_order ++ s.in_order') (first ++ second) moved ∙ m);
        }

    -- the first group has what the second has not
    pub other_part : (f s : List ℕ) → Positions f s → length f + length s ≡ length rects → (q : ℕ) → q < length rects → is_among f q ≡ not (is_among s q)
    other_part f s p size q lt =
        let there : is_among (f ++ s) q ≡ true = all_below (length rects) (f ++ s) p.distinct p.within (length-append f s ∙ size) q lt in
        by_test (is_among f q) (is_among s q) refl refl (sym (list_any-append (nat_eq q) f s) ∙ there)
      where
        by_test : (a b : Bool) → is_among f q ≡ a → is_among s q ≡ b → (a || b) ≡ true → a ≡ not b
        by_test true true e d h = absurd (not_twice f s q p.distinct e d)
        by_test true false e d h = refl
        by_test false true e d h = refl
        by_test false false e d h = cc

    pub other_second : (f s : List ℕ) → Positions f s → length f + length s ≡ length rects → (q : ℕ) → q < length rects → is_among s q ≡ not (is_among f q)
    other_second f s p size q lt = by_test (is_among f q) (is_among s q) (other_part f s p size q lt)
      where
        by_test : (a b : Bool) → a ≡ not b → b ≡ not a
        by_test true true e = cc
        by_test true false e = refl
        by_test false true e = refl
        by_test false false e = cc

    pub off_first : (f s : List ℕ) → Positions f s → (q : ℕ) → length rects ≤ q → is_among f q ≡ false
    off_first f s p q le = by_test (is_among f q) refl
      where
        by_test : (b : Bool) → is_among f q ≡ b → b ≡ false
        by_test true e = let lt : q < length rects = p.within q (list_any-append (nat_eq q) f s ∙ or_left (is_among f q) (is_among s q) e) in absurd (omega arith)
        by_test false e = refl

    pub off_second : (f s : List ℕ) → Positions f s → (q : ℕ) → length rects ≤ q → is_among s q ≡ false
    off_second f s p q le = by_test (is_among s q) refl
      where
        by_test : (b : Bool) → is_among s q ≡ b → b ≡ false
        by_test true e = let lt : q < length rects = p.within q (list_any-append (nat_eq q) f s ∙ ap (λ (b : Bool). is_among f q || b) e ∙ or_true (is_among f q)) in absurd (omega arith)
        by_test false e = refl
