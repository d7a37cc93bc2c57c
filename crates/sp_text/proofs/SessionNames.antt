-- The session that a word names is the one that is written so.
use Rattle.std.proofs.Common.{arith, ◌≡◌, ℕ, ◌+◌, ◌-◌, ◌*◌, ◌/◌, ◌%◌, ◌<◌, ◌≤◌, Bool, true, false, cond, ◌&&◌, nat_lt, nat_le, List, [], ◌∷◌, Option, Some, None, refl, ap}
use Rattle.std.specs.Option.{option_map}
use Rattle.std.proofs.lemmas.Bool.Decides.{nat_tests}
use Rattle.sp_text.specs.Numbers.{is_decimal_digit}
use Rattle.sp_text.specs.Names.{digits_word, digits_count, script_name, session_of}

-- the digits are those of the number
record AreDigits (ds : List ℕ) (k : ℕ) : Type 0 where
  small : k < 111
  word : ds ≡ digits_word k

one_digit : (d k : ℕ) → is_decimal_digit d ≡ true → 1 + (d - 48) ≡ k → AreDigits (d ∷ []) k
unfolding digits_word
one_digit d k h e =
    let low : 48 ≤ d = grind (arith, nat_tests) in
    let high : d ≤ 57 = grind (arith, nat_tests) in
    let t : nat_lt k 1 ≡ false = grind (arith, nat_tests) in
    let u : nat_lt k 11 ≡ true = grind (arith, nat_tests) in
    let p : 48 + (k - 1) ≡ d = omega arith in
    record { small = omega arith; word = rw (t, u, p) refl }

both_true : (a b : Bool) → a && b ≡ true → (a ≡ true) × (b ≡ true)
both_true true b e = (refl, e)
both_true false b e = absurd (cc)

two_digits : (d f k : ℕ) → is_decimal_digit d ≡ true → is_decimal_digit f ≡ true → 11 + (10 * (d - 48) + (f - 48)) ≡ k → AreDigits (d ∷ f ∷ []) k
unfolding digits_word
two_digits d f k h g e =
    let low : 48 ≤ d = grind (arith, nat_tests) in
    let high : d ≤ 57 = grind (arith, nat_tests) in
    let lower : 48 ≤ f = grind (arith, nat_tests) in
    let higher : f ≤ 57 = grind (arith, nat_tests) in
    let t : nat_lt k 1 ≡ false = grind (arith, nat_tests) in
    let u : nat_lt k 11 ≡ false = grind (arith, nat_tests) in
    let p : 48 + (k - 11) / 10 ≡ d = omega arith in
    let q : 48 + (k - 11) % 10 ≡ f = omega arith in
    record { small = omega arith; word = rw (t, u, p, q) refl }

same_some : (a b : ℕ) → Some a ≡ Some b → a ≡ b
same_some a b e = cc

are_digits : (ds : List ℕ) (k : ℕ) → digits_count ds ≡ Some k → AreDigits ds k
unfolding digits_word
are_digits [] k e = let z : 0 ≡ k = same_some 0 k e in record { small = omega arith; word = ap digits_word z }
are_digits (d ∷ []) k e = by_test (is_decimal_digit d) refl e
  where
    by_test : (b : Bool) → is_decimal_digit d ≡ b → cond b (Some (1 + (d - 48))) None ≡ Some k → AreDigits (d ∷ []) k
    by_test true t f = one_digit d k t (same_some _ _ f)
    by_test false t f = absurd (cc)
are_digits (d ∷ g ∷ []) k e = by_test (is_decimal_digit d && is_decimal_digit g) refl e
  where
    by_test : (b : Bool) → is_decimal_digit d && is_decimal_digit g ≡ b → cond b (Some (11 + (10 * (d - 48) + (g - 48)))) None ≡ Some k → AreDigits (d ∷ g ∷ []) k
    by_test true t f = let p = both_true _ _ t in two_digits d g k p.0 p.1 (same_some _ _ f)
    by_test false t f = absurd (cc)
are_digits (d ∷ g ∷ j ∷ ds) k e = absurd (cc)

name_is : (letter k s : ℕ) (ds : List ℕ) → 65 ≤ letter → AreDigits ds k → 111 * (letter - 65) + k ≡ s → letter ∷ ds ≡ script_name s
unfolding script_name
name_is letter k s ds low h e =
    let p : 65 + s / 111 ≡ letter = omega (arith, h.small) in
    let q : s % 111 ≡ k = omega (arith, h.small) in
    rw (p, q) (ap (λ l. letter ∷ l) h.word)

pub session_named : (word : List ℕ) (s : ℕ) → session_of word ≡ Some s → word ≡ script_name s
session_named [] s e = absurd (cc)
session_named (letter ∷ ds) s e = by_letter (nat_le 65 letter && nat_le letter 90) refl e
  where
    by_letter : (b : Bool) → nat_le 65 letter && nat_le letter 90 ≡ b → cond b (option_map (λ k. 111 * (letter - 65) + k) (digits_count ds)) None ≡ Some s
        → letter ∷ ds ≡ script_name s
    by_letter false t f = absurd (cc)
    by_letter true t f = by_digits (digits_count ds) refl f
      where
        by_digits : (o : Option ℕ) → digits_count ds ≡ o → option_map (λ k. 111 * (letter - 65) + k) o ≡ Some s → letter ∷ ds ≡ script_name s
        by_digits None g f = absurd (cc)
        by_digits (Some k) g f =
            let low : 65 ≤ letter = grind (arith, nat_tests) in
            name_is letter k s ds low (are_digits ds k g) (same_some _ _ f)
