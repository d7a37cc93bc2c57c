-- The strips that one rectangle leaves of another, point by point.
use Rattle.std.proofs.Common.{◌≡◌, Bool, true, false, ◌&&◌, not, IsTrue, ℤ, pos, ◌≤ℤ◌, ◌<ℤ◌, ◌+ℤ◌, ◌-ℤ◌, refl, arith}
use Rattle.std.specs.Int.Signed.{le_z}
use Rattle.std.proofs.lemmas.Int.{ints}
use Rattle.sp_rect.specs.Plane.{Rectangle, Point, Holds, holds, IsRectangle, corners, lowest, highest}
use Rattle.sp_rect.specs.Inside.{at_most, test_passes}
use Rattle.sp_region.specs.Cut.{left_of, right_of, beneath, above}
use Rattle.sp_region.proofs.Points.{Holds-from_test, test-from_Holds, same_tests, both_pass, each_passes}

fails : (b : Bool) → (IsTrue b → ⊥) → IsTrue (not b)
fails true f = absurd (f refl)
fails false f = refl

pub not_at_most : (x y : ℤ) → y <ℤ x → IsTrue (not (le_z x y))
not_at_most x y h = fails (le_z x y) (λ t. let k : x ≤ℤ y = at_most x y t in let no : ⊥ = omega (arith, ints) in no)

by_order : (x y : ℤ) → (x ≤ℤ y → ⊥) → y <ℤ x
by_order x y f = grind (arith, ints)

refuted : (b : Bool) → IsTrue (not b) → IsTrue b → ⊥
refuted true h k = cc
refuted false h k = cc

pub beyond : (x y : ℤ) → IsTrue (not (le_z x y)) → y <ℤ x
beyond x y h = by_order x y (λ k. refuted (le_z x y) h (test_passes x y k))

module _ (r : Rectangle) (v : IsRectangle r) (o : Rectangle) (p : Point) where
  -- a part of r by its ends, and the same part by a test
  same_part : (c : Rectangle) (side : Bool) → (Holds r p → Holds c p → IsTrue side) → (Holds r p → IsTrue side → Holds c p) → (holds r p && holds c p) ≡ (holds r p && side)
  same_part c side f g =
      same_tests (holds r p && holds c p) (holds r p && side)
      (λ h. let e = each_passes (holds r p) (holds c p) h in both_pass (holds r p) side e.0 (f (Holds-from_test r p e.0) (Holds-from_test c p e.1)))
      (λ h. let e = each_passes (holds r p) side h in both_pass (holds r p) (holds c p) e.0 (test-from_Holds c p (g (Holds-from_test r p e.0) e.1)))

  pub left_points : (end : ℤ) → end ≡ o.x1 -ℤ pos 1 → (holds r p && holds (corners lowest lowest end highest) p) ≡ (holds r p && left_of o p)
  left_points end e = same_part (corners lowest lowest end highest) (left_of o p)
      (λ h k. not_at_most o.x1 p.x (omega (arith, ints)))
      (λ h t. let b : p.x <ℤ o.x1 = beyond o.x1 p.x t in record { from_left = omega (arith, ints); to_right = omega (arith, ints); from_below = omega (arith, ints); to_above = omega (arith, ints) })

  pub right_points : (end : ℤ) → end ≡ o.x2 +ℤ pos 1 → (holds r p && holds (corners end lowest highest highest) p) ≡ (holds r p && right_of o p)
  right_points end e = same_part (corners end lowest highest highest) (right_of o p)
      (λ h k. not_at_most p.x o.x2 (omega (arith, ints)))
      (λ h t. let b : o.x2 <ℤ p.x = beyond p.x o.x2 t in record { from_left = omega (arith, ints); to_right = omega (arith, ints); from_below = omega (arith, ints); to_above = omega (arith, ints) })

  pub lower_points : (end : ℤ) → end ≡ o.y1 -ℤ pos 1 → (holds r p && holds (corners o.x1 lowest o.x2 end) p) ≡ (holds r p && beneath o p)
  lower_points end e = same_part (corners o.x1 lowest o.x2 end) (beneath o p)
      (λ h k. both_pass (le_z o.x1 p.x && le_z p.x o.x2) (not (le_z o.y1 p.y))
      (both_pass (le_z o.x1 p.x) (le_z p.x o.x2) (test_passes o.x1 p.x (omega (arith, ints))) (test_passes p.x o.x2 (omega (arith, ints))))
      (not_at_most o.y1 p.y (omega (arith, ints))))
      (λ h t. let s = each_passes (le_z o.x1 p.x && le_z p.x o.x2) (not (le_z o.y1 p.y)) t in
      let m = each_passes (le_z o.x1 p.x) (le_z p.x o.x2) s.0 in
      let l : o.x1 ≤ℤ p.x = at_most _ _ m.0 in
      let u : p.x ≤ℤ o.x2 = at_most _ _ m.1 in
      let b : p.y <ℤ o.y1 = beyond o.y1 p.y s.1 in
      record { from_left = omega (arith, ints); to_right = omega (arith, ints); from_below = omega (arith, ints); to_above = omega (arith, ints) })

  pub upper_points : (end : ℤ) → end ≡ o.y2 +ℤ pos 1 → (holds r p && holds (corners o.x1 end o.x2 highest) p) ≡ (holds r p && above o p)
  upper_points end e = same_part (corners o.x1 end o.x2 highest) (above o p)
      (λ h k. both_pass (le_z o.x1 p.x && le_z p.x o.x2) (not (le_z p.y o.y2))
      (both_pass (le_z o.x1 p.x) (le_z p.x o.x2) (test_passes o.x1 p.x (omega (arith, ints))) (test_passes p.x o.x2 (omega (arith, ints))))
      (not_at_most p.y o.y2 (omega (arith, ints))))
      (λ h t. let s = each_passes (le_z o.x1 p.x && le_z p.x o.x2) (not (le_z p.y o.y2)) t in
      let m = each_passes (le_z o.x1 p.x) (le_z p.x o.x2) s.0 in
      let l : o.x1 ≤ℤ p.x = at_most _ _ m.0 in
      let u : p.x ≤ℤ o.x2 = at_most _ _ m.1 in
      let b : o.y2 <ℤ p.y = beyond p.y o.y2 s.1 in
      record { from_left = omega (arith, ints); to_right = omega (arith, ints); from_below = omega (arith, ints); to_above = omega (arith, ints) })
