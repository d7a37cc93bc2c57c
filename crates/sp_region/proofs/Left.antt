-- What is left of the whole rectangle, as a list and as a test.
use Rattle.std.proofs.Common.{◌≡◌, ℕ, ◌+◌, ◌<◌, ◌≤◌, Bool, true, false, ◌||◌, ◌↔◌, IsTrue, List, [], ◌∷◌, drop, Option, Some, None, is_some, IfSome, IfNone, Result, Ok, Err, IfOk, refl, sym, ap, ◌∙◌, arith, ltb}
use Rattle.std.specs.List.{count_by, list_any}
use Rattle.std.proofs.lemmas.List.Sums.{sum_by-cons}
use Rattle.sp_rect.specs.Plane.{Rectangle, IsRectangle, Point, point, holds}
use Rattle.sp_region.specs.declared.pieces.Piece.{Piece}
use Rattle.sp_region.specs.Region.{is_left, held_by, LeavesAny}
use Rattle.sp_region.specs.Cut.{one, piece, times_left, IsAnyLeft}
use Rattle.sp_region.proofs.Points.{corner}

pub if_ok : {A E : Type 0} {P Q : A → Type 0} (r : Result A E) → ((x : A) → P x → Q x) → IfOk r P → IfOk r Q
if_ok (Ok x) f h = f x h
if_ok (Err e) f h = tt

-- a list in which a test passes as often as a test says passes some test exactly where that one passes
module _ {X : Type 0} (t : X → Bool) where
  pub any_counted : (xs : List X) → list_any t xs ≡ ltb 0 (count_by t xs)
  any_counted [] = refl
  any_counted (x ∷ xs) = by_test (t x) (any_counted xs) ∙ ap (ltb 0) (sym (sum_by-cons (λ y. one (t y)) x xs))
    where
      by_test : (b : Bool) → list_any t xs ≡ ltb 0 (count_by t xs) → (b || list_any t xs) ≡ ltb 0 (one b + count_by t xs)
      by_test true e = grind arith
      by_test false e = grind arith

  pub any_once : (xs : List X) (b : Bool) → count_by t xs ≡ one b → list_any t xs ≡ b
  any_once xs b e = any_counted xs ∙ ap (ltb 0) e ∙ by_test b
    where
      by_test : (b : Bool) → ltb 0 (one b) ≡ b
      by_test true = refl
      by_test false = refl

pub at_most_one : (n : ℕ) (b : Bool) → n ≡ one b → n ≤ 1
at_most_one n true e = omega arith
at_most_one n false e = omega arith

pub passes_from_one : (b : Bool) → 0 < one b → IsTrue b
passes_from_one true h = refl
passes_from_one false h = absurd (omega arith)

pub one_from_passes : (b : Bool) → IsTrue b → 0 < one b
one_from_passes true h = omega arith
one_from_passes false h = cc

-- the whole rectangle as the one piece
module _ (r : Rectangle) (others : List Rectangle) (pending : List Piece) (whole : pending ≡ piece r 0 ∷ []) where
  pub whole_times : (p : Point) → times_left others pending p ≡ one (is_left r others p)
  unfolding times_left
  whole_times p = ap (λ (xs : List Piece). times_left others xs p) whole ∙ sum_by-cons (λ s. one (is_left s.rect (drop s.next others) p)) (piece r 0) [] ∙ grind arith

  pub whole_left : IsAnyLeft others pending ↔ LeavesAny r others
  whole_left = (
    λ h. let k : 0 < times_left others pending h.0 = h.1 in let e = whole_times h.0 in (h.0, passes_from_one _ (omega (arith, k, e))),
    λ h. let k = one_from_passes _ h.1 in let e = whole_times h.0 in (h.0, omega (arith, k, e)),
  )

pub none_times : (others : List Rectangle) (pieces : List Piece) (p : Point) → pieces ≡ [] → times_left others pieces p ≡ 0
unfolding times_left
none_times others pieces p e = ap (λ (xs : List Piece). times_left others xs p) e

-- the first piece that is left shows that some point is
module _ (others : List Rectangle) (old new : List Piece) where
  pub any_of : (o : Option Rectangle) → ((p : Point) → times_left others old p ≡ one (held_by o p) + times_left others new p) → IfNone o (new ≡ []) → IfSome o (λ r. IsRectangle r) → IsTrue (is_some o) ↔ IsAnyLeft others old
  any_of None f n v = (
    λ h. cc,
    λ h. let e : times_left others old h.0 ≡ 0 + times_left others new h.0 = f h.0 in let k : 0 < times_left others old h.0 = h.1 in absurd (omega (arith, none_times others new h.0 n)),
  )
  any_of (Some r) f n v = (
    λ h.
        let p : Point = point r.x1 r.y1 in
        let e : times_left others old p ≡ one (holds r p) + times_left others new p = f p in
        let k = one_from_passes (holds r p) (corner r v) in (p, omega arith),
    λ h. refl,
  )
