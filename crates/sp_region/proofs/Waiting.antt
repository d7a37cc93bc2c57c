-- Pieces that wait for some of the others: what an other that is met, or passed over, changes.
use Rattle.std.proofs.Common.{◌≡◌, ℕ, zero, suc, ◌+◌, ◌*◌, ◌-◌, ◌<◌, ◌≤◌, Bool, true, false, cond, ◌&&◌, ◌||◌, not, IsTrue, List, [], ◌∷◌, ◌++◌, length, map, drop, get_or, refl, sym, ap, ◌∙◌, arith}
use Rattle.std.specs.List.{count_by, sum_by}
use Rattle.std.proofs.lemmas.Int.{ints}
use Rattle.std.proofs.lemmas.List.{at_drop_more, at_drop_all}
use Rattle.std.proofs.lemmas.List.Sums.{sum_by-cons, sum_by-append, sum_by_push}
use Rattle.sp_rect.specs.Plane.{Rectangle, Point, holds, meets}
use Rattle.sp_rect.specs.Inside.{meets-from_Overlap}
use Rattle.sp_region.specs.declared.pieces.Piece.{Piece}
use Rattle.sp_region.specs.Region.{covered, is_left}
use Rattle.sp_region.specs.Cut.{one, piece, times_left, burden, weight, IsCut}
use Rattle.sp_region.proofs.Points.{Holds-from_test}

-- rectangles that do not meet share no point
pub apart : (r o : Rectangle) (p : Point) → meets r o ≡ false → IsTrue (holds r p) → holds o p ≡ false
apart r o p e h = by_test (holds o p) refl
  where
    by_test : (t : Bool) → holds o p ≡ t → t ≡ false
    by_test false k = refl
    by_test true k =
        let a = Holds-from_test r p h in
        let b = Holds-from_test o p k in
        let m : meets r o ≡ true = meets-from_Overlap r o (record { left = omega (arith, ints); right = omega (arith, ints); lower = omega (arith, ints); upper = omega (arith, ints) }) in
        sym m ∙ e

-- an other that the rectangle does not meet takes no point from it
pub passed : (r : Rectangle) (others : List Rectangle) (at : ℕ) (o : Rectangle) → at < length others → o ≡ get_or others at o → meets r o ≡ false → (p : Point) → is_left r (drop at others) p ≡ is_left r (drop (at + 1) others) p
passed r others at o h is e p = ap (λ (xs : List Rectangle). is_left r xs p) (at_drop_more (λ xs. xs) others at o h ∙ ap (λ (x : Rectangle). x ∷ drop (at + 1) others) (sym is)) ∙ by_test (holds r p) refl (holds o p) refl (covered (drop (at + 1) others) p)
  where
    by_test : (s : Bool) → holds r p ≡ s → (t : Bool) → holds o p ≡ t → (k : Bool) → (s && not (t || k)) ≡ (s && not k)
    by_test false a t b k = refl
    by_test true a false b k = refl
    by_test true a true b k = let no = apart r o p e a in cc

-- with none of the others left every point stays
pub all_passed : (r : Rectangle) (others : List Rectangle) (at : ℕ) → length others ≤ at → (p : Point) → is_left r (drop at others) p ≡ holds r p
all_passed r others at h p = ap (λ (xs : List Rectangle). is_left r xs p) (at_drop_all (λ xs. xs) others at h) ∙ by_test (holds r p)
  where
    by_test : (s : Bool) → (s && true) ≡ s
    by_test true = refl
    by_test false = refl

-- The strips of a cut wait for the others behind it.
module _ (others : List Rectangle) (p : Point) where
  -- in how many of the strips the point is left by others that cover it, or do not
  module _ (n : ℕ) where
    pub strips_left : (strips : List Rectangle) → count_by (λ s. is_left s.rect (drop s.next others) p) (map (λ s. piece s n) strips) ≡ cond (covered (drop n others) p) 0 (count_by (λ s. holds s p) strips)
    strips_left [] = by_test (covered (drop n others) p)
      where
        by_test : (k : Bool) → ◌≡◌ {A = ℕ} 0 (cond k 0 0)
        by_test true = refl
        by_test false = refl
    strips_left (s ∷ ss) = sum_by-cons (λ x. one (is_left x.rect (drop x.next others) p)) (piece s n) (map (λ x. piece x n) ss) ∙ ap (λ (m : ℕ). one (is_left s (drop n others) p) + m) (strips_left ss) ∙ by_test (covered (drop n others) p) (holds s p) ∙ ap (cond (covered (drop n others) p) 0) (sym (sum_by-cons (λ x. one (holds x p)) s ss))
      where
        by_test : (k t : Bool) → one (t && not k) + cond k 0 (count_by (λ x. holds x p) ss) ≡ cond k 0 (one t + count_by (λ x. holds x p) ss)
        by_test true true = refl
        by_test true false = refl
        by_test false true = refl
        by_test false false = refl

  pub times_push : (rest : List Piece) (s : Piece) → times_left others (rest ++ s ∷ []) p ≡ times_left others rest p + one (is_left s.rect (drop s.next others) p)
  unfolding times_left
  times_push rest s = sum_by_push (λ x. one (is_left x.rect (drop x.next others) p)) rest s

  pub times_cut : (r o : Rectangle) (at : ℕ) (rest new : List Piece) → at < length others → o ≡ get_or others at o → IsCut r o (at + 1) rest new → times_left others new p ≡ times_left others rest p + one (is_left r (drop at others) p)
  unfolding times_left
  times_cut r o at rest new h is c =
      ap (λ (xs : List Piece). count_by (λ s. is_left s.rect (drop s.next others) p) xs) c.added
      ∙ sum_by-append (λ x. one (is_left x.rect (drop x.next others) p)) rest (map (λ s. piece s (at + 1)) c.strips)
      ∙ ap (λ (m : ℕ). count_by (λ s. is_left s.rect (drop s.next others) p) rest + m) (strips_left (at + 1) c.strips ∙ ap (cond (covered (drop (at + 1) others) p) 0) (c.points p) ∙ by_test (holds r p) (holds o p) (covered (drop (at + 1) others) p) ∙ sym here)
    where
      here : one (is_left r (drop at others) p) ≡ one (holds r p && not (holds o p || covered (drop (at + 1) others) p))
      here = ap (λ (xs : List Rectangle). one (is_left r xs p)) (at_drop_more (λ xs. xs) others at o h ∙ ap (λ (x : Rectangle). x ∷ drop (at + 1) others) (sym is))

      by_test : (s t k : Bool) → cond k 0 (one (s && not t)) ≡ one (s && not (t || k))
      by_test true true true = refl
      by_test true true false = refl
      by_test true false true = refl
      by_test true false false = refl
      by_test false t true = refl
      by_test false t false = refl

-- A cut makes the burden less.
weight_up : (m n : ℕ) → m ≤ n → weight m ≤ weight n
weight_up zero zero h = omega arith
weight_up zero (suc n) h = omega arith
weight_up (suc m) zero h = absurd (omega arith)
weight_up (suc m) (suc n) h = omega (arith, weight_up m n (omega arith))

weight_falls : (m n : ℕ) → m < n → 4 * weight m < weight n
weight_falls m zero h = absurd (omega arith)
weight_falls m (suc n) h = omega (arith, weight_up m n (omega arith))

weight_positive : (n : ℕ) → 0 < weight n
weight_positive zero = omega arith
weight_positive (suc n) = omega arith

module _ (others : List Rectangle) where
  module _ (n : ℕ) where
    strips_burden : (strips : List Rectangle) → sum_by (λ s. weight (length others - s.next)) (map (λ s. piece s n) strips) ≡ length strips * weight (length others - n)
    strips_burden [] = grind arith
    strips_burden (s ∷ ss) = sum_by-cons (λ x. weight (length others - x.next)) (piece s n) (map (λ x. piece x n) ss) ∙ ap (λ (m : ℕ). weight (length others - n) + m) (strips_burden ss) ∙ grind arith

  pub burden_push : (rest : List Piece) (s : Piece) → burden others (rest ++ s ∷ []) ≡ burden others rest + weight (length others - s.next)
  unfolding burden
  burden_push rest s = sum_by_push (λ x. weight (length others - x.next)) rest s

  few_weigh : (k w v : ℕ) → k ≤ 4 → 4 * w < v → k * w < v
  few_weigh k w v h l = grind arith

  pub burden_cut : (r o : Rectangle) (at next : ℕ) (rest new : List Piece) → next ≤ at → at < length others → IsCut r o (at + 1) rest new → burden others new < burden others rest + weight (length others - next)
  unfolding burden
  burden_cut r o at next rest new b h c =
      let e : sum_by (λ s. weight (length others - s.next)) new ≡ sum_by (λ s. weight (length others - s.next)) rest + length c.strips * weight (length others - (at + 1)) =
      ap (sum_by (λ (s : Piece). weight (length others - s.next))) c.added ∙ sum_by-append (λ x. weight (length others - x.next)) rest (map (λ s. piece s (at + 1)) c.strips)
      ∙ ap (λ (m : ℕ). sum_by (λ s. weight (length others - s.next)) rest + m) (strips_burden (at + 1) c.strips) in
      let f : length c.strips * weight (length others - (at + 1)) < weight (length others - next) = few_weigh _ _ _ c.few (weight_falls _ _ (omega arith)) in
      omega arith

  pub burden_less : (rest : List Piece) (s : Piece) → burden others rest < burden others (rest ++ s ∷ [])
  burden_less rest s = let e = burden_push rest s in let w = weight_positive (length others - s.next) in omega arith

-- One turn: the last piece is taken out, and is left or cut.
module _ (others : List Rectangle) (pending rest : List Piece) (s : Piece) (taken : pending ≡ rest ++ s ∷ []) where
  pub times_taken : (p : Point) → is_left s.rect (drop s.next others) p ≡ holds s.rect p → times_left others pending p ≡ one (holds s.rect p) + times_left others rest p
  times_taken p is =
      let e : times_left others pending p ≡ times_left others (rest ++ s ∷ []) p = ap (λ (xs : List Piece). times_left others xs p) taken in
      let f = times_push others p rest s in
      let g : one (is_left s.rect (drop s.next others) p) ≡ one (holds s.rect p) = ap one is in
      omega arith

  pub times_kept : (o : Rectangle) (at : ℕ) (new : List Piece) (p : Point) → at < length others → o ≡ get_or others at o → is_left s.rect (drop s.next others) p ≡ is_left s.rect (drop at others) p → IsCut s.rect o (at + 1) rest new → times_left others pending p ≡ times_left others new p
  times_kept o at new p h k is c =
      ap (λ (xs : List Piece). times_left others xs p) taken ∙ times_push others p rest s ∙ ap (λ (b : Bool). times_left others rest p + one b) is ∙ sym (times_cut others p s.rect o at rest new h k c)

  same_burden : burden others pending ≡ burden others (rest ++ s ∷ [])
  same_burden = ap (burden others) taken

  pub burden_taken : burden others rest < burden others pending
  burden_taken = let e = same_burden in let l = burden_less others rest s in omega arith

  pub burden_kept : (o : Rectangle) (at : ℕ) (new : List Piece) → s.next ≤ at → at < length others → IsCut s.rect o (at + 1) rest new → burden others new < burden others pending
  burden_kept o at new b h c =
      let e = same_burden in
      let f = burden_push others rest s in
      let l = burden_cut others s.rect o at s.next rest new b h c in
      omega arith
