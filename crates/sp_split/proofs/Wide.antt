-- Areas and their differences survive a register of 128 bits.
use Rattle.std.specs.Bool.{MatchBool}
use Rattle.std.specs.Int.Signed.{lt_z}
use Rattle.std.proofs.Common.{Bool, true, false, ◌<ℤ◌, ◌≡◌, ◌^◌, ℤ, pos, negsuc, ◌≤ℤ◌, ◌-ℤ◌, arith, ap, ap₂, ◌∙◌, sym, subst, to_z, of_z, FitsSigned}
use Rattle.std.proofs.lemmas.Int.{ints, to_z-of_z}
use mir.Syntax.{w128}

abbrev pub wide : ℤ → ℤ
wide z = to_z w128 (of_z w128 z)

pub fits : (z : ℤ) → negsuc (2 ^ 65) ≤ℤ z → z ≤ℤ pos (2 ^ 65) → FitsSigned w128 z
fits (pos n) low high = record { sfits = omega (arith, ints) }
fits (negsuc n) low high = record { sfits = omega (arith, ints) }

pub wide_is : (z : ℤ) → negsuc (2 ^ 65) ≤ℤ z → z ≤ℤ pos (2 ^ 65) → wide z ≡ z
wide_is z low high = to_z-of_z w128 z (fits z low high)

pub record Waste (x y z : ℤ) : Type 0 where
  pub first : FitsSigned w128 (wide x -ℤ wide y)
  pub second : FitsSigned w128 (wide (wide x -ℤ wide y) -ℤ wide z)
  pub value : wide (wide (wide x -ℤ wide y) -ℤ wide z) ≡ x -ℤ y -ℤ z

pub waste_fits : (x y z : ℤ) → pos 0 ≤ℤ x → x ≤ℤ pos (2 ^ 62) → pos 0 ≤ℤ y → y ≤ℤ pos (2 ^ 62) → pos 0 ≤ℤ z → z ≤ℤ pos (2 ^ 62) → Waste x y z
waste_fits x y z lx hx ly hy lz hz =
    let d : wide x -ℤ wide y ≡ x -ℤ y = ap₂ ◌-ℤ◌ (wide_is x (omega (arith, ints)) (omega (arith, ints))) (wide_is y (omega (arith, ints)) (omega (arith, ints))) in
    let w : wide (wide x -ℤ wide y) ≡ x -ℤ y = ap wide d ∙ wide_is (x -ℤ y) (omega (arith, ints)) (omega (arith, ints)) in
    let e : wide (wide x -ℤ wide y) -ℤ wide z ≡ x -ℤ y -ℤ z = ap₂ ◌-ℤ◌ w (wide_is z (omega (arith, ints)) (omega (arith, ints))) in
    record {
      first = subst (FitsSigned w128) (sym d) (fits (x -ℤ y) (omega (arith, ints)) (omega (arith, ints)));
      second = subst (FitsSigned w128) (sym e) (fits (x -ℤ y -ℤ z) (omega (arith, ints)) (omega (arith, ints)));
      value = ap wide e ∙ wide_is (x -ℤ y -ℤ z) (omega (arith, ints)) (omega (arith, ints));
    }

tested : (x y : ℤ) → MatchBool (lt_z x y) (x <ℤ y) (y ≤ℤ x)
tested x y = grind (arith, ints)

pub compared : (x y a b : ℤ) → x ≡ a → y ≡ b → MatchBool (lt_z x y) (a <ℤ b) (b ≤ℤ a)
compared x y a b ex ey =
    subst (λ (z : ℤ). MatchBool (lt_z z y) (a <ℤ b) (b ≤ℤ a)) (sym ex) (subst (λ (z : ℤ). MatchBool (lt_z a z) (a <ℤ b) (b ≤ℤ a)) (sym ey) (tested a b))

pub yes : (P Q : Type 0) (b : Bool) → b ≡ true → MatchBool b P Q → P
yes P Q b e m = subst (λ (x : Bool). MatchBool x P Q) e m

pub no : (P Q : Type 0) (b : Bool) → b ≡ false → MatchBool b P Q → Q
no P Q b e m = subst (λ (x : Bool). MatchBool x P Q) e m
