-- Tests on points, and what they say.
use Rattle.std.proofs.Common.{◌≡◌, Bool, true, false, ◌&&◌, IsTrue, refl, sym, arith}
use Rattle.std.proofs.lemmas.Int.{ints}
use Rattle.std.specs.Int.Signed.{le_z}
use Rattle.sp_rect.specs.Plane.{Rectangle, IsRectangle, Point, point, Holds, holds}
use Rattle.sp_rect.specs.Inside.{each_four, all_four, at_most, test_passes}

pub Holds-from_test : (r : Rectangle) (p : Point) → IsTrue (holds r p) → Holds r p
Holds-from_test r p h =
    let t = each_four (le_z r.x1 p.x) (le_z p.x r.x2) (le_z r.y1 p.y) (le_z p.y r.y2) h in
    record { from_left = at_most _ _ t.0; to_right = at_most _ _ t.1; from_below = at_most _ _ t.2; to_above = at_most _ _ t.3 }

pub test-from_Holds : (r : Rectangle) (p : Point) → Holds r p → IsTrue (holds r p)
test-from_Holds r p h = all_four (le_z r.x1 p.x) (le_z p.x r.x2) (le_z r.y1 p.y) (le_z p.y r.y2) (test_passes _ _ h.from_left) (test_passes _ _ h.to_right) (test_passes _ _ h.from_below) (test_passes _ _ h.to_above)

-- tests that pass together are equal
pub same_tests : (a b : Bool) → (IsTrue a → IsTrue b) → (IsTrue b → IsTrue a) → a ≡ b
same_tests true b f g = sym (f refl)
same_tests false true f g = g refl
same_tests false false f g = refl

pub both_pass : (a b : Bool) → IsTrue a → IsTrue b → IsTrue (a && b)
both_pass true b h k = k
both_pass false b h k = cc

pub each_passes : (a b : Bool) → IsTrue (a && b) → IsTrue a × IsTrue b
each_passes true b h = (refl, h)
each_passes false b h = cc

-- a rectangle holds its lower left corner
pub corner : (r : Rectangle) → IsRectangle r → IsTrue (holds r (point r.x1 r.y1))
corner r v = test-from_Holds r (point r.x1 r.y1) (record { from_left = omega (arith, ints); to_right = omega (arith, ints); from_below = omega (arith, ints); to_above = omega (arith, ints) })
