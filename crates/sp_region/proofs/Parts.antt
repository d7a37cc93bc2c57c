-- The part of a rectangle between some bounds, point by point.
use Rattle.std.proofs.Common.{◌≡◌, Bool, true, false, ◌&&◌, IsTrue, ℤ, ◌≤ℤ◌, refl, sym, ap, ap₂, ◌∙◌, arith, if◌then◌else◌, Option, Some, None, IfSome, is_some, to_z, of_z, w32, w64, FitsSigned}
use Rattle.std.specs.Prelude.{int_le}
use Rattle.std.specs.Int.{int_min, int_max}
use Rattle.std.specs.Int.Signed.{le_z}
use Rattle.std.proofs.lemmas.Int.{ints, clamps, to_z-of_z}
use Rattle.sp_rect.specs.Plane.{Rectangle, Point, point, Holds, holds, meets, IsRectangle, is_rectangle, is_interval, made_rectangle, corners, lowest, highest}
use Rattle.sp_rect.specs.Inside.{Overlap-from_meets, meets-from_Overlap}
use Rattle.sp_region.specs.Region.{held_by}
use Rattle.sp_region.proofs.Points.{corner, Holds-from_test, test-from_Holds, same_tests, both_pass, each_passes}

int_le-from : (a b : ℤ) → a ≤ℤ b → int_le a b ≡ true
int_le-from a b h = grind (arith, ints)

is_interval-from : (a b : ℤ) → lowest ≤ℤ a → a ≤ℤ b → b ≤ℤ highest → is_interval a b ≡ true
unfolding is_interval
is_interval-from a b l h u = rw (int_le-from lowest a l, int_le-from a b h, int_le-from b highest u) refl

-- within space only crossed corners are no rectangle's, and between them there is no point
module _ (a b c d : ℤ) (left : lowest ≤ℤ a) (right : c ≤ℤ highest) (lower : lowest ≤ℤ b) (upper : d ≤ℤ highest) where
  pub made_points : (p : Point) → held_by (made_rectangle a b c d) p ≡ holds (corners a b c d) p
  made_points p = by_test (is_rectangle (corners a b c d)) refl (holds (corners a b c d) p) refl
    where
      by_test : (t : Bool) → is_rectangle (corners a b c d) ≡ t → (h : Bool) → holds (corners a b c d) p ≡ h → held_by (if t then Some (corners a b c d) else None) p ≡ h
      by_test true e h k = k
      by_test false e false k = refl
      by_test false e true k =
          let in_it = Holds-from_test (corners a b c d) p k in
          let across : is_interval a c ≡ true = is_interval-from a c left (omega (arith, ints)) right in
          let along : is_interval b d ≡ true = is_interval-from b d lower (omega (arith, ints)) upper in
          let is : is_rectangle (corners a b c d) ≡ true = both_pass (is_interval a c) (is_interval b d) across along in
          sym e ∙ is

module _ (r : Rectangle) (v : IsRectangle r) (x1 y1 x2 y2 : ℤ) where
  pub part_points :
      (a b c d : ℤ) → a ≡ int_max x1 r.x1 → b ≡ int_max y1 r.y1 → c ≡ int_min x2 r.x2 → d ≡ int_min y2 r.y2 → (p : Point) → held_by (made_rectangle a b c d) p ≡ (holds r p && holds (corners x1 y1 x2 y2) p)
  part_points a b c d ea eb ec ed p =
      made_points a b c d (omega (arith, ints, clamps)) (omega (arith, ints, clamps)) (omega (arith, ints, clamps)) (omega (arith, ints, clamps)) p
      ∙ same_tests (holds (corners a b c d) p) (holds r p && holds (corners x1 y1 x2 y2) p)
      (λ h. let k = Holds-from_test (corners a b c d) p h in
      both_pass (holds r p) (holds (corners x1 y1 x2 y2) p)
      (test-from_Holds r p (record { from_left = omega (arith, ints, clamps); to_right = omega (arith, ints, clamps); from_below = omega (arith, ints, clamps); to_above = omega (arith, ints, clamps) }))
      (test-from_Holds (corners x1 y1 x2 y2) p (record { from_left = omega (arith, ints, clamps); to_right = omega (arith, ints, clamps); from_below = omega (arith, ints, clamps); to_above = omega (arith, ints, clamps) })))
      (λ h. let e = each_passes (holds r p) (holds (corners x1 y1 x2 y2) p) h in
      let k = Holds-from_test r p e.0 in
      let l = Holds-from_test (corners x1 y1 x2 y2) p e.1 in
      test-from_Holds (corners a b c d) p (record { from_left = omega (arith, ints, clamps); to_right = omega (arith, ints, clamps); from_below = omega (arith, ints, clamps); to_above = omega (arith, ints, clamps) }))

-- a bound and an end of a rectangle in registers of 64 bits
module _ (x end end' wide m : ℤ) (fits : FitsSigned w64 x) (low : lowest ≤ℤ end) (high : end ≤ℤ highest) (is : end' ≡ end) (wider : wide ≡ to_z w32 (of_z w32 end')) where
  stored : to_z w64 (of_z w64 x) ≡ x
  stored = to_z-of_z w64 x fits

  widened : to_z w64 (of_z w64 wide) ≡ end
  widened = omega (arith, ints)

  pub greater_end : m ≡ int_max (to_z w64 (of_z w64 x)) (to_z w64 (of_z w64 wide)) → FitsSigned w64 m → to_z w64 (of_z w64 m) ≡ int_max x end
  greater_end e f = to_z-of_z w64 m f ∙ e ∙ ap₂ int_max stored widened

  pub lesser_end : m ≡ int_min (to_z w64 (of_z w64 x)) (to_z w64 (of_z w64 wide)) → FitsSigned w64 m → to_z w64 (of_z w64 m) ≡ int_min x end
  lesser_end e f = to_z-of_z w64 m f ∙ e ∙ ap₂ int_min stored widened

-- the rectangle of these corners
pub same_corners : {a b c d : ℤ} (r : Rectangle) → a ≡ r.x1 → b ≡ r.y1 → c ≡ r.x2 → d ≡ r.y2 → corners a b c d ≡ r
same_corners r p q s t i = corners (p i) (q i) (s i) (t i)

-- what two rectangles share is a rectangle exactly where they meet
module _ (a b : Rectangle) (o : Option Rectangle) (points : (p : Point) → held_by o p ≡ (holds a p && holds b p)) where
  shared : (p : Point) → IsTrue (held_by o p) → Holds a p × Holds b p
  shared p h = let e = each_passes (holds a p) (holds b p) (sym (points p) ∙ h) in (Holds-from_test a p e.0, Holds-from_test b p e.1)

  pub some_shared : IsRectangle a → IsRectangle b → IfSome o (λ r. IsRectangle r) → is_some o ≡ meets a b
  some_shared va vb v = same_tests (is_some o) (meets a b) (onward o refl v) (λ h. backward h o refl)
    where
      onward : (q : Option Rectangle) → o ≡ q → IfSome q (λ r. IsRectangle r) → IsTrue (is_some q) → IsTrue (meets a b)
      onward None e w h = cc
      onward (Some r) e w h =
          let p : Point = point r.x1 r.y1 in
          let s = shared p (ap (λ (x : Option Rectangle). held_by x p) e ∙ corner r w) in
          let k = s.0 in
          let l = s.1 in
          meets-from_Overlap a b (record { left = omega (arith, ints); right = omega (arith, ints); lower = omega (arith, ints); upper = omega (arith, ints) })

      backward : IsTrue (meets a b) → (q : Option Rectangle) → o ≡ q → IsTrue (is_some q)
      backward h (Some r) e = refl
      backward h None e =
          let m = Overlap-from_meets a b h in
          let p : Point = point (int_max a.x1 b.x1) (int_max a.y1 b.y1) in
          let ha : IsTrue (holds a p) = test-from_Holds a p (record { from_left = omega (arith, ints, clamps); to_right = omega (arith, ints, clamps); from_below = omega (arith, ints, clamps); to_above = omega (arith, ints, clamps) }) in
          let hb : IsTrue (holds b p) = test-from_Holds b p (record { from_left = omega (arith, ints, clamps); to_right = omega (arith, ints, clamps); from_below = omega (arith, ints, clamps); to_above = omega (arith, ints, clamps) }) in
          let both : IsTrue (holds a p && holds b p) = both_pass (holds a p) (holds b p) ha hb in
          let none : false ≡ (holds a p && holds b p) = ap (λ (x : Option Rectangle). held_by x p) (sym e) ∙ points p in
          none ∙ both
