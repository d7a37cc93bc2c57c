-- Two rectangles with holes: whether they overlap, and whether one exceeds the other.
use Rattle.std.proofs.Common.{◌≡◌, ℕ, ◌+◌, ◌<◌, Bool, true, false, cond, ◌&&◌, ◌||◌, not, ◌↔◌, IsTrue, List, [], ◌∷◌, ◌++◌, length, take, get_or, drop, Option, Some, None, refl, sym, ap, subst, ◌∙◌, arith, ltb}
use Rattle.std.specs.List.{count_by}
use Rattle.std.proofs.lemmas.List.{append-nil}
use Rattle.std.proofs.lemmas.List.Folds.{list_any-append}
use Rattle.std.proofs.lemmas.List.Sums.{sum_by_push, sum_by_more}
use Rattle.sp_rect.specs.Plane.{Rectangle, Point, holds}
use Rattle.sp_region.specs.declared.pieces.Piece.{Piece}
use Rattle.sp_region.specs.Region.{covered, is_left, held_by, Overlap, Exceeds}
use Rattle.sp_region.specs.Cut.{one, piece, pieces_of, times_left, IsAnyLeft, IsCut, IsShared}
use Rattle.sp_region.proofs.Left.{whole_left, any_counted}
use Rattle.sp_region.proofs.Waiting.{strips_left}

module _ (a : Rectangle) (holes : List Rectangle) (b : Rectangle) (others : List Rectangle) where
  left_of_both : (shared : Rectangle) (p : Point) → holds shared p ≡ (holds a p && holds b p) → is_left shared (holes ++ others) p ≡ (is_left a holes p && is_left b others p)
  left_of_both shared p e = ap (λ (t : Bool). t && not (covered (holes ++ others) p)) e ∙ ap (λ (t : Bool). holds a p && holds b p && not t) (list_any-append (λ r. holds r p) holes others) ∙ by_test (holds a p) (holds b p) (covered holes p) (covered others p)
    where
      by_test : (s t k l : Bool) → (s && t && not (k || l)) ≡ ((s && not k) && (t && not l))
      by_test s t k l = grind arith

  pub overlap_shared : (shared : Rectangle) (all : List Rectangle) (pending : List Piece) → ((p : Point) → holds shared p ≡ (holds a p && holds b p)) → all ≡ holes ++ others → pending ≡ piece shared 0 ∷ [] → IsAnyLeft all pending ↔ Overlap a holes b others
  overlap_shared shared all pending f e w =
      let whole = whole_left shared all pending w in
      let same : (p : Point) → is_left shared all p ≡ (is_left a holes p && is_left b others p) = λ p. ap (λ (xs : List Rectangle). is_left shared xs p) e ∙ left_of_both shared p (f p) in (
        λ h. let k = whole.0 h in (k.0, sym (same k.0) ∙ k.1),
        λ h. whole.1 (h.0, same h.0 ∙ h.1),
      )

  pub overlap_none : ((p : Point) → false ≡ (holds a p && holds b p)) → IsTrue false ↔ Overlap a holes b others
  overlap_none f = (λ h. cc, λ h. by_test (holds a h.0) (holds b h.0) (covered holes h.0) (covered others h.0) (f h.0) h.1)
    where
      by_test : (s t k l : Bool) → false ≡ (s && t) → IsTrue ((s && not k) && (t && not l)) → IsTrue false
      by_test true true k l e h = e
      by_test true false k l e h = grind arith
      by_test false t k l e h = h

-- what is added for one more of the others
module _ (a : Rectangle) (holes : List Rectangle) (p : Point) where
  one_more : (old : List Piece) (o : Option Rectangle) → times_left holes (old ++ pieces_of o 0) p ≡ times_left holes old p + one (held_by o p && not (covered holes p))
  unfolding times_left
  one_more old None = simp append-nil (grind arith)
  one_more old (Some r) = sum_by_push (λ x. one (is_left x.rect (drop x.next holes) p)) old (piece r 0)

  pub shared_more :
      (others : List Rectangle) (i : ℕ) (other : Rectangle) (o : Option Rectangle) (first old new : List Piece) → i < length others → other ≡ get_or others i other → held_by o p ≡ (holds a p && holds other p)
      → times_left holes old p ≡ times_left holes first p + cond (is_left a holes p) (count_by (λ r. holds r p) (take i others)) 0 → new ≡ old ++ pieces_of o 0 → times_left holes new p ≡ times_left holes first p + cond (is_left a holes p) (count_by (λ r. holds r p) (take (i + 1) others)) 0
  shared_more others i other o first old new h is e before n =
      let more : count_by (λ r. holds r p) (take (i + 1) others) ≡ count_by (λ r. holds r p) (take i others) + one (holds other p) = sum_by_more (λ r. one (holds r p)) others i other h ∙ ap (λ (r : Rectangle). count_by (λ x. holds x p) (take i others) + one (holds r p)) (sym is) in
      ap (λ (xs : List Piece). times_left holes xs p) n ∙ one_more old o ∙ ap (λ (m : ℕ). m + one (held_by o p && not (covered holes p))) before ∙ ap (λ (t : Bool). times_left holes first p + cond (is_left a holes p) (count_by (λ r. holds r p) (take i others)) 0 + one (t && not (covered holes p))) e
      ∙ by_test (holds a p) (holds other p) (covered holes p) (times_left holes first p) (count_by (λ r. holds r p) (take i others))
      ∙ ap (λ (m : ℕ). times_left holes first p + cond (is_left a holes p) m 0) (sym more)
    where
      by_test : (s t k : Bool) (n m : ℕ) → n + cond (s && not k) m 0 + one (s && t && not k) ≡ n + cond (s && not k) (m + one t) 0
      by_test true true true n m = omega arith
      by_test true true false n m = omega arith
      by_test true false true n m = omega arith
      by_test true false false n m = omega arith
      by_test false t true n m = omega arith
      by_test false t false n m = omega arith

pub shared_none : (a : Rectangle) (first : List Piece) → IsShared a [] first first
shared_none a first holes p = by_test (is_left a holes p) (times_left holes first p)
  where
    by_test : (b : Bool) (n : ℕ) → n ≡ n + cond b 0 0
    by_test true n = grind arith
    by_test false n = grind arith

-- the pieces of a rectangle outside of another, or in one of the other's holes
module _ (a b : Rectangle) (holes others : List Rectangle) (strips pieces : List Piece) (cut : IsCut a b 0 [] strips) (shared : IsShared a others strips pieces) where
  strips_times : (p : Point) → times_left holes strips p ≡ cond (covered holes p) 0 (one (holds a p && not (holds b p)))
  unfolding times_left
  strips_times p = ap (λ (xs : List Piece). times_left holes xs p) cut.added ∙ strips_left holes p 0 cut.strips ∙ ap (cond (covered holes p) 0) (cut.points p)

  times : (p : Point) → times_left holes pieces p ≡ cond (covered holes p) 0 (one (holds a p && not (holds b p))) + cond (is_left a holes p) (count_by (λ r. holds r p) others) 0
  times p = shared holes p ∙ ap (λ (m : ℕ). m + cond (is_left a holes p) (count_by (λ r. holds r p) others) 0) (strips_times p)

  exceeding : (s t k l : Bool) (n : ℕ) → l ≡ ltb 0 n → (0 < cond k 0 (one (s && not t)) + cond (s && not k) n 0) ↔ IsTrue ((s && not k) && not (t && not l))
  exceeding true true true l n e = (λ h. absurd (omega arith), λ h. cc)
  exceeding true true false true n e = (λ h. refl, λ h. grind arith)
  exceeding true true false false n e = (λ h. grind arith, λ h. cc)
  exceeding true false true l n e = (λ h. absurd (omega arith), λ h. cc)
  exceeding true false false l n e = (λ h. refl, λ h. omega arith)
  exceeding false t true l n e = (λ h. absurd (omega arith), λ h. cc)
  exceeding false t false l n e = (λ h. absurd (omega arith), λ h. cc)

  pub exceeds_pieces : IsAnyLeft holes pieces ↔ Exceeds a holes b others
  exceeds_pieces = (
    λ h.
        let p : Point = h.0 in
        (p, (exceeding (holds a p) (holds b p) (covered holes p) (covered others p) (count_by (λ r. holds r p) others) (any_counted (λ r. holds r p) others)).0 (subst (λ (m : ℕ). 0 < m) (times p) h.1)),
    λ h.
        let p : Point = h.0 in
        (p, subst (λ (m : ℕ). 0 < m) (sym (times p)) ((exceeding (holds a p) (holds b p) (covered holes p) (covered others p) (count_by (λ r. holds r p) others) (any_counted (λ r. holds r p) others)).1 h.1)),
  )
