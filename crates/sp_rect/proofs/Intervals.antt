-- Tests of intervals in space.
use Rattle.std.proofs.Common.{◌≡◌, ℤ, pos, negsuc, Bool, true, false, ◌&&◌, ◌≤ℤ◌, arith, refl, IsTrue, ap, ◌∙◌}
use Rattle.std.specs.Prelude.{int_le}
use Rattle.std.proofs.lemmas.Int.{ints}
use Rattle.sp_rect.specs.Plane.{is_coordinate, is_interval, lowest, highest}
use Rattle.sp_rect.proofs.Corners.{stored, stored_same}

-- what the test of an interval says
pub record InSpace (a b : ℤ) : Type 0 where
  pub low : negsuc 1073741823 ≤ℤ a
  pub ordered : a ≤ℤ b
  pub high : b ≤ℤ pos 1073741823

pub both : (a b : Bool) → a && b ≡ true → (a ≡ true) × (b ≡ true)
both true true e = (refl, refl)
both true false e = absurd (cc)
both false b e = absurd (cc)

pub le_from_test : (a b : ℤ) → int_le a b ≡ true → a ≤ℤ b
le_from_test a b e = grind (arith, ints)

pub in_space : (a b : ℤ) → is_interval a b ≡ true → InSpace a b
unfolding is_interval
in_space a b e =
    let p = both _ _ e in
    let q = both _ _ p.1 in
    record { low = le_from_test _ _ p.0; ordered = le_from_test _ _ q.0; high = le_from_test _ _ q.1 }

pub test_from_le : (a b : ℤ) → a ≤ℤ b → int_le a b ≡ true
test_from_le a b h = grind (arith, ints)

pub first_is_coordinate : (a b : ℤ) → is_interval a b ≡ true → IsTrue (is_coordinate a)
unfolding is_coordinate
first_is_coordinate a b e =
    let h = in_space a b e in
    rw (test_from_le lowest a h.low, test_from_le a highest (omega (arith, ints))) refl

pub second_is_coordinate : (a b : ℤ) → is_interval a b ≡ true → IsTrue (is_coordinate b)
unfolding is_coordinate
second_is_coordinate a b e =
    let h = in_space a b e in
    rw (test_from_le lowest b (omega (arith, ints)), test_from_le b highest h.high) refl

-- the ends of an interval in space, in 32 bits
pub narrowed : (a b p q : ℤ) → is_interval a b ≡ true → p ≡ a → q ≡ b → InSpace (stored p) (stored q)
narrowed a b p q e ep eq =
    let h = in_space a b e in
    let sp : stored p ≡ a = ap stored ep ∙ stored_same a h.low (omega (arith, ints)) in
    let sq : stored q ≡ b = ap stored eq ∙ stored_same b (omega (arith, ints)) h.high in
    record { low = omega (arith, ints); ordered = omega (arith, ints); high = omega (arith, ints) }
