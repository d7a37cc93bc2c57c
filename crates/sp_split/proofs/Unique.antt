-- A list of rectangles has one split.
use Rattle.std.proofs.Common.{◌≡◌, ℕ, ◌+◌, ◌-◌, ◌*◌, ◌<◌, ◌≤◌, ◌⊎◌, Bool, true, false, not, ℤ, ◌≤ℤ◌, ◌<ℤ◌, List, [], ◌∷◌, ◌++◌, length, refl, sym, ap, ◌∙◌, subst, arith, inl, inr}
use Rattle.std.specs.Prelude.{nat_eq}
use Rattle.std.proofs.lemmas.Int.{ints}
use Rattle.std.proofs.lemmas.Bool.{cases_lt}
use Rattle.std.proofs.lemmas.List.{length-append}
use Rattle.std.proofs.lemmas.List.Sorted.{list_any-IsPermutation}
use Rattle.std.proofs.lemmas.Map.Keys.{sorted_from_strictly_increasing}
use Rattle.sp_rect.specs.Plane.{Rectangle, area}
use Rattle.sp_split.specs.Split.{is_among, group_bound, rect_at, waste, preference, Formed, seeded, to_first, to_second, IsFree, IsNext, IsBefore, rest, Goes, AreSeeds, FirstTakes, SecondTakes, Splits}
use Rattle.sp_split.proofs.Members.{same_rising}
use Rattle.sp_split.proofs.Positions.{Positions, positions, other_part, other_second, off_first, off_second}

-- no rectangle is taken by both groups
exclusive : (a b : Rectangle) (m n : ℕ) (r : Rectangle) → FirstTakes a b m n r → SecondTakes a b m n r → ⊥
exclusive a b m n r (inl f) (inl s) = omega (arith, ints)
exclusive a b m n r (inl f) (inr s) = let e = s.0 in omega (arith, ints)
exclusive a b m n r (inr f) (inl s) = let e = f.0 in omega (arith, ints)
exclusive a b m n r (inr f) (inr s) = ties f.1 s.1
  where
    ties : (area a <ℤ area b) ⊎ ((area a ≡ area b) × (m ≤ n)) → (area b <ℤ area a) ⊎ ((area a ≡ area b) × (n < m)) → ⊥
    ties (inl f) (inl s) = omega (arith, ints)
    ties (inl f) (inr s) = let e = s.0 in omega (arith, ints)
    ties (inr f) (inl s) = let e = f.0 in omega (arith, ints)
    ties (inr f) (inr s) = let e = f.1 in let g = s.1 in omega arith

module _ (rects : List Rectangle) where
  -- one pair of seeds
  ordered : (i j a b : ℕ) → AreSeeds rects i j → AreSeeds rects a b → IsBefore a b i j → ⊥
  ordered i j a b s t before =
      let less : waste rects a b <ℤ waste rects i j = s.first a b t.ordered t.within before in
      let more : waste rects i j ≤ℤ waste rects a b = t.most i j s.ordered s.within in
      omega (arith, ints)

  pub one_seeds : (i j a b : ℕ) → AreSeeds rects i j → AreSeeds rects a b → (i ≡ a) × (j ≡ b)
  one_seeds i j a b s t = by_first (cases_lt i a) (cases_lt a i)
    where
      by_second : i ≡ a → (j < b) ⊎ (b ≤ j) → (b < j) ⊎ (j ≤ b) → (i ≡ a) × (j ≡ b)
      by_second e (inl lt) k = absurd (ordered a b i j t s (inr (e, lt)))
      by_second e (inr le) (inl lt) = absurd (ordered i j a b s t (inr (sym e, lt)))
      by_second e (inr le) (inr ge) = (e, omega arith)

      by_first : (i < a) ⊎ (a ≤ i) → (a < i) ⊎ (i ≤ a) → (i ≡ a) × (j ≡ b)
      by_first (inl lt) k = absurd (ordered a b i j t s (inl lt))
      by_first (inr le) (inl lt) = absurd (ordered i j a b s t (inl lt))
      by_first (inr le) (inr ge) = by_second (omega arith) (cases_lt j b) (cases_lt b j)

  -- one position is next
  sooner : (f s : List ℕ) (p q : ℕ) → IsFree rects f s p → IsFree rects f s q → IsNext rects f s p → IsNext rects f s q → p < q → ⊥
  sooner f s p q a b m n lt =
      let less = n.least p a lt in
      let more = m.most q b in
      below (preference rects (group_bound rects f) (group_bound rects s) p) (preference rects (group_bound rects f) (group_bound rects s) q) less more
    where
      below : (x y : ℤ) → x <ℤ y → y ≤ℤ x → ⊥
      below x y h k = omega (arith, ints)

  one_next : (f s : List ℕ) (p q : ℕ) → IsFree rects f s p → IsFree rects f s q → IsNext rects f s p → IsNext rects f s q → p ≡ q
  one_next f s p q a b m n = by_order (cases_lt p q) (cases_lt q p)
    where
      by_order : (p < q) ⊎ (q ≤ p) → (q < p) ⊎ (p ≤ q) → p ≡ q
      by_order (inl lt) k = absurd (sooner f s p q a b m n lt)
      by_order (inr le) (inl lt) = absurd (sooner f s q p b a n m lt)
      by_order (inr le) (inr ge) = omega arith

  module _ (min : ℕ) (enough : 2 * min ≤ length rects) where
    -- all that remain go to this group
    abbrev Fills : List ℕ → List ℕ → Type 0
    Fills f s = length f + rest rects min f s ≡ min

    abbrev FillsSecond : List ℕ → List ℕ → Type 0
    FillsSecond f s = length s + rest rects min f s ≡ min

    -- What two ways of forming groups of as many members have in common: everything, until all that
    -- remain go to one group, and from then on the other group.
    data Same (f s g t : List ℕ) : Type 0 where
      equal : f ≡ g → s ≡ t → Same f s g t
      fills : s ≡ t → Fills f s → Fills g t → Same f s g t
      fills_second : f ≡ g → FillsSecond f s → FillsSecond g t → Same f s g t

    one_more : (f s : List ℕ) (p : ℕ) → length f + length s < length rects → Fills f s → Fills (f ++ p ∷ []) s
    one_more f s p lt h = let e = length-append f (p ∷ []) in arithmetic (length f) (length s) (length rects) (length (f ++ p ∷ [])) e lt h
      where
        arithmetic : (a b n c : ℕ) → c ≡ a + 1 → a + b < n → a + (n - (a + b)) ≡ min → c + (n - (c + b)) ≡ min
        arithmetic a b n c e lt h = omega arith

    one_more_second : (f s : List ℕ) (p : ℕ) → length f + length s < length rects → FillsSecond f s → FillsSecond f (s ++ p ∷ [])
    one_more_second f s p lt h = let e = length-append s (p ∷ []) in arithmetic (length f) (length s) (length rects) (length (s ++ p ∷ [])) e lt h
      where
        arithmetic : (a b n c : ℕ) → c ≡ b + 1 → a + b < n → b + (n - (a + b)) ≡ min → c + (n - (a + c)) ≡ min
        arithmetic a b n c e lt h = omega arith

    -- both groups do not want all that remain, while something remains
    not_both : (f s : List ℕ) → length f + length s < length rects → Fills f s → FillsSecond f s → ⊥
    not_both f s lt h k = arithmetic (length f) (length s) (length rects) lt h k enough
      where
        arithmetic : (a b n : ℕ) → a + b < n → a + (n - (a + b)) ≡ min → b + (n - (a + b)) ≡ min → 2 * min ≤ n → ⊥
        arithmetic a b n lt h k e = omega arith

    -- the group that wants all that remain gets the next
    must_first : (f s : List ℕ) (p : ℕ) → Fills f s → Goes rects min f s p false → ⊥
    must_first f s p h (inl k) = k.0 h
    must_first f s p h (inr k) = k.0.0 h

    must_second : (f s : List ℕ) (p : ℕ) → length f + length s < length rects → FillsSecond f s → Goes rects min f s p true → ⊥
    must_second f s p lt h (inl k) = not_both f s lt k h
    must_second f s p lt h (inr k) = k.0.1 h

    module _ (f s : List ℕ) (p q : ℕ) (a : IsFree rects f s p) (b : IsFree rects f s q) (lt : length f + length s < length rects) where
      both_first : Goes rects min f s p true → Goes rects min f s q true → Same (f ++ p ∷ []) s (f ++ q ∷ []) s
      both_first (inl h) k = fills refl (one_more f s p lt h) (one_more f s q lt h)
      both_first (inr h) (inl k) = fills refl (one_more f s p lt k) (one_more f s q lt k)
      both_first (inr h) (inr k) = equal (ap (λ (r : ℕ). f ++ r ∷ []) (one_next f s p q a b h.1 k.1)) refl

      both_second : Goes rects min f s p false → Goes rects min f s q false → Same f (s ++ p ∷ []) f (s ++ q ∷ [])
      both_second (inl h) k = fills_second refl (one_more_second f s p lt h.1) (one_more_second f s q lt h.1)
      both_second (inr h) (inl k) = fills_second refl (one_more_second f s p lt k.1) (one_more_second f s q lt k.1)
      both_second (inr h) (inr k) = equal refl (ap (λ (r : ℕ). s ++ r ∷ []) (one_next f s p q a b h.1 k.1))

      not_other : Goes rects min f s p true → Goes rects min f s q false → ⊥
      not_other (inl h) k = must_first f s q h k
      not_other (inr h) (inl k) = h.0.1 k.1
      not_other (inr h) (inr k) =
          let same = one_next f s p q a b h.1 k.1 in
          exclusive (group_bound rects f) (group_bound rects s) (length f) (length s) (rect_at rects q) (subst (λ (r : ℕ). FirstTakes (group_bound rects f) (group_bound rects s) (length f) (length s) (rect_at rects r)) same h.2) k.2

    -- one position more on both sides
    module _ (f s g t : List ℕ) (p q : ℕ) (a : IsFree rects f s p) (b : IsFree rects g t q) (lt : length f + length s < length rects) (lt' : length g + length t < length rects) where
      here_free : f ≡ g → s ≡ t → IsFree rects f s q
      here_free e d = subst (λ (x : List ℕ). IsFree rects x s q) (sym e) (subst (λ (y : List ℕ). IsFree rects g y q) (sym d) b)

      here_goes : f ≡ g → s ≡ t → (c : Bool) → Goes rects min g t q c → Goes rects min f s q c
      here_goes e d c k = subst (λ (x : List ℕ). Goes rects min x s q c) (sym e) (subst (λ (y : List ℕ). Goes rects min g y q c) (sym d) k)

      first_first : Same f s g t → Goes rects min f s p true → Goes rects min g t q true → Same (f ++ p ∷ []) s (g ++ q ∷ []) t
      first_first (equal e d) h k =
          subst (λ (x : List ℕ). Same (f ++ p ∷ []) s (x ++ q ∷ []) t) e
          (subst (λ (y : List ℕ). Same (f ++ p ∷ []) s (f ++ q ∷ []) y) d (both_first f s p q a (here_free e d) lt h (here_goes e d true k)))
      first_first (fills e m n) h k = fills e (one_more f s p lt m) (one_more g t q lt' n)
      first_first (fills_second e m n) h k = absurd (must_second f s p lt m h)

      second_second : Same f s g t → Goes rects min f s p false → Goes rects min g t q false → Same f (s ++ p ∷ []) g (t ++ q ∷ [])
      second_second (equal e d) h k =
          subst (λ (x : List ℕ). Same f (s ++ p ∷ []) x (t ++ q ∷ [])) e
          (subst (λ (y : List ℕ). Same f (s ++ p ∷ []) f (y ++ q ∷ [])) d (both_second f s p q a (here_free e d) lt h (here_goes e d false k)))
      second_second (fills e m n) h k = absurd (must_first f s p m h)
      second_second (fills_second e m n) h k = fills_second e (one_more_second f s p lt m) (one_more_second g t q lt' n)

      never : Same f s g t → Goes rects min f s p true → Goes rects min g t q false → ⊥
      never (equal e d) h k = not_other f s p q a (here_free e d) lt h (here_goes e d false k)
      never (fills e m n) h k = must_first g t q n k
      never (fills_second e m n) h k = must_second f s p lt m h

    turned : (f s g t : List ℕ) → Same f s g t → Same g t f s
    turned f s g t (equal e d) = equal (sym e) (sym d)
    turned f s g t (fills e m n) = fills (sym e) n m
    turned f s g t (fills_second e m n) = fills_second (sym e) n m

    two_at_least : (f s : List ℕ) → Formed rects min f s → (1 ≤ length f) × (1 ≤ length s)
    two_at_least f s (seeded i j seeds) = (omega arith, omega arith)
    two_at_least f s (to_first first second p formed fresh goes) = let h = two_at_least first second formed in (omega (arith, length-append first (p ∷ [])), h.1)
    two_at_least f s (to_second first second p formed fresh goes) = let h = two_at_least first second formed in (h.0, omega (arith, length-append second (p ∷ [])))

    same_formed : (f s g t : List ℕ) → Formed rects min f s → Formed rects min g t → length f + length s ≡ length g + length t → length f + length s ≤ length rects → Same f s g t
    same_formed f s g t (seeded i j x) (seeded a b y) size le = let e = one_seeds i j a b x y in equal (ap (λ (k : ℕ). k ∷ []) e.0) (ap (λ (k : ℕ). k ∷ []) e.1)
    same_formed f s g t (seeded i j x) (to_first first second p formed fresh goes) size le = let h = two_at_least first second formed in absurd (omega (arith, length-append first (p ∷ []), h.0, h.1))
    same_formed f s g t (seeded i j x) (to_second first second p formed fresh goes) size le = let h = two_at_least first second formed in absurd (omega (arith, length-append second (p ∷ []), h.0, h.1))
    same_formed f s g t (to_first first second p formed fresh goes) (seeded a b y) size le = let h = two_at_least first second formed in absurd (omega (arith, length-append first (p ∷ []), h.0, h.1))
    same_formed f s g t (to_second first second p formed fresh goes) (seeded a b y) size le = let h = two_at_least first second formed in absurd (omega (arith, length-append second (p ∷ []), h.0, h.1))
    same_formed f s g t (to_first f1 s1 p formed fresh goes) (to_first g1 t1 q formed' fresh' goes') size le =
        let m = length-append f1 (p ∷ []) in
        let n = length-append g1 (q ∷ []) in
        first_first f1 s1 g1 t1 p q fresh fresh' (omega (arith, m, n)) (omega (arith, m, n)) (same_formed f1 s1 g1 t1 formed formed' (omega (arith, m, n)) (omega (arith, m, n))) goes goes'
    same_formed f s g t (to_second f1 s1 p formed fresh goes) (to_second g1 t1 q formed' fresh' goes') size le =
        let m = length-append s1 (p ∷ []) in
        let n = length-append t1 (q ∷ []) in
        second_second f1 s1 g1 t1 p q fresh fresh' (omega (arith, m, n)) (omega (arith, m, n)) (same_formed f1 s1 g1 t1 formed formed' (omega (arith, m, n)) (omega (arith, m, n))) goes goes'
    same_formed f s g t (to_first f1 s1 p formed fresh goes) (to_second g1 t1 q formed' fresh' goes') size le =
        let m = length-append f1 (p ∷ []) in
        let n = length-append t1 (q ∷ []) in
        absurd (never f1 s1 g1 t1 p q fresh fresh' (omega (arith, m, n)) (omega (arith, m, n)) (same_formed f1 s1 g1 t1 formed formed' (omega (arith, m, n)) (omega (arith, m, n))) goes goes')
    same_formed f s g t (to_second f1 s1 p formed fresh goes) (to_first g1 t1 q formed' fresh' goes') size le =
        let m = length-append s1 (p ∷ []) in
        let n = length-append g1 (q ∷ []) in
        absurd (never g1 t1 f1 s1 q p fresh' fresh (omega (arith, m, n)) (omega (arith, m, n)) (turned f1 s1 g1 t1 (same_formed f1 s1 g1 t1 formed formed' (omega (arith, m, n)) (omega (arith, m, n)))) goes' goes)

    -- the same members of each group
    same_groups : (f s g t : List ℕ) → Positions rects min f s → Positions rects min g t → length f + length s ≡ length rects → length g + length t ≡ length rects → Same f s g t → (q : ℕ) → (is_among f q ≡ is_among g q) × (is_among s q ≡ is_among t q)
    same_groups f s g t a b m n (equal e d) q = (ap (λ (xs : List ℕ). is_among xs q) e, ap (λ (xs : List ℕ). is_among xs q) d)
    same_groups f s g t a b m n (fills e h k) q = (by_range (cases_lt q (length rects)), seconds)
      where
        seconds : is_among s q ≡ is_among t q
        seconds = ap (λ (xs : List ℕ). is_among xs q) e

        by_range : (q < length rects) ⊎ (length rects ≤ q) → is_among f q ≡ is_among g q
        by_range (inl lt) = other_part rects min f s a m q lt ∙ ap not seconds ∙ sym (other_part rects min g t b n q lt)
        by_range (inr le) = off_first rects min f s a q le ∙ sym (off_first rects min g t b q le)
    same_groups f s g t a b m n (fills_second e h k) q = (firsts, by_range (cases_lt q (length rects)))
      where
        firsts : is_among f q ≡ is_among g q
        firsts = ap (λ (xs : List ℕ). is_among xs q) e

        by_range : (q < length rects) ⊎ (length rects ≤ q) → is_among s q ≡ is_among t q
        by_range (inl lt) = other_second rects min f s a m q lt ∙ ap not firsts ∙ sym (other_second rects min g t b n q lt)
        by_range (inr le) = off_second rects min f s a q le ∙ sym (off_second rects min g t b q le)

    -- **A list of at least twice `min` rectangles has one split.**
    pub one_split : (first second first' second' : List ℕ) → Splits rects min first second → Splits rects min first' second' → (first ≡ first') × (second ≡ second')
    one_split first second first' second' x y =
        let same = same_groups x.in_order x.in_order' y.in_order y.in_order' (positions rects min x.in_order x.in_order' x.formed) (positions rects min y.in_order y.in_order' y.formed) x.all y.all
        (same_formed x.in_order x.in_order' y.in_order y.in_order' x.formed y.formed (x.all ∙ sym y.all) (omega (arith, x.all))) in (
          same_rising first first' (sorted_from_strictly_increasing first x.ascending) (sorted_from_strictly_increasing first' y.ascending)
              (λ k. sym (list_any-IsPermutation (nat_eq k) x.in_order first x.same) ∙ (same k).0 ∙ list_any-IsPermutation (nat_eq k) y.in_order first' y.same),
          same_rising second second' (sorted_from_strictly_increasing second x.ascending') (sorted_from_strictly_increasing second' y.ascending')
              (λ k. sym (list_any-IsPermutation (nat_eq k) x.in_order' second x.same') ∙ (same k).1 ∙ list_any-IsPermutation (nat_eq k) y.in_order' second' y.same'),
        )
