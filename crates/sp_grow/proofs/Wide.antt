-- A difference of areas survives a register of 128 bits.
use Rattle.std.proofs.Common.{◌≡◌, ◌^◌, ℤ, pos, negsuc, ◌≤ℤ◌, ◌-ℤ◌, arith, ap, ap₂, ◌∙◌, to_z, of_z, FitsSigned}
use Rattle.std.proofs.lemmas.Int.{ints, to_z-of_z}
use mir.Syntax.{w128}

abbrev pub wide : ℤ → ℤ
wide z = to_z w128 (of_z w128 z)

between : (z : ℤ) → negsuc (2 ^ 62) ≤ℤ z → z ≤ℤ pos (2 ^ 62) → FitsSigned w128 z
between (pos n) low high = record { sfits = omega (arith, ints) }
between (negsuc n) low high = record { sfits = omega (arith, ints) }

pub wide_difference : (x y : ℤ) → pos 0 ≤ℤ x → x ≤ℤ pos (2 ^ 62) → pos 0 ≤ℤ y → y ≤ℤ pos (2 ^ 62) → wide (wide x -ℤ wide y) ≡ x -ℤ y
wide_difference x y lx hx ly hy =
    let wx : wide x ≡ x = to_z-of_z w128 x (between x (omega (arith, ints)) hx) in
    let wy : wide y ≡ y = to_z-of_z w128 y (between y (omega (arith, ints)) hy) in
    let fits : FitsSigned w128 (x -ℤ y) = between _ (omega (arith, ints)) (omega (arith, ints)) in
    ap wide (ap₂ ◌-ℤ◌ wx wy) ∙ to_z-of_z w128 (x -ℤ y) fits
