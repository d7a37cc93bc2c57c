-- Coordinates as they are passed.
use Rattle.std.proofs.Common.{◌≡◌, ℤ, pos, negsuc, ◌≤ℤ◌, ap, ◌∙◌, arith, w32, to_z, of_z}
use Rattle.std.proofs.lemmas.Int.{ints, to_z-of_z}
use mir.Val.{SFits}
use Rattle.sp_rect.specs.Plane.{Rectangle, IsRectangle, lowest, highest}
use Rattle.sp_journal.specs.Format.{coordinate_bytes}

between : (z : ℤ) → lowest ≤ℤ z → z ≤ℤ highest → SFits w32 z
between (pos n) low high = record { sfits = omega (arith, ints) }
between (negsuc n) low high = record { sfits = omega (arith, ints) }

passed : (z c : ℤ) → z ≡ c → lowest ≤ℤ z → z ≤ℤ highest → coordinate_bytes (to_z w32 (of_z w32 z)) ≡ coordinate_bytes c
passed z c is low high = ap coordinate_bytes (to_z-of_z w32 z (between z low high) ∙ is)

pub passed_x1 : (r : Rectangle) (z : ℤ) → IsRectangle r → z ≡ r.x1 → coordinate_bytes (to_z w32 (of_z w32 z)) ≡ coordinate_bytes r.x1
passed_x1 r z is same = passed z r.x1 same (omega (arith, ints, is.left, same)) (omega (arith, ints, is.across, is.right, same))

pub passed_y1 : (r : Rectangle) (z : ℤ) → IsRectangle r → z ≡ r.y1 → coordinate_bytes (to_z w32 (of_z w32 z)) ≡ coordinate_bytes r.y1
passed_y1 r z is same = passed z r.y1 same (omega (arith, ints, is.lower, same)) (omega (arith, ints, is.along, is.upper, same))

pub passed_x2 : (r : Rectangle) (z : ℤ) → IsRectangle r → z ≡ r.x2 → coordinate_bytes (to_z w32 (of_z w32 z)) ≡ coordinate_bytes r.x2
passed_x2 r z is same = passed z r.x2 same (omega (arith, ints, is.left, is.across, same)) (omega (arith, ints, is.right, same))

pub passed_y2 : (r : Rectangle) (z : ℤ) → IsRectangle r → z ≡ r.y2 → coordinate_bytes (to_z w32 (of_z w32 z)) ≡ coordinate_bytes r.y2
passed_y2 r z is same = passed z r.y2 same (omega (arith, ints, is.lower, is.along, same)) (omega (arith, ints, is.upper, same))
