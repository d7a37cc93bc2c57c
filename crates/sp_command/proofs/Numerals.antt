-- Numbers in words.
use Rattle.std.proofs.Common.{◌≡◌, ℕ, ◌<◌, ◌≤◌, ◌^◌, Bool, true, false, List, [], ◌∷◌, drop, Some, None, refl, sym, ap, ◌∙◌, cond, arith, tests}
use Rattle.std.specs.Prelude.{bytes_eq, decimal, nat_le, ◌&&◌, ◌==◌, Result, Ok, Err}
use Rattle.std.specs.Str.Parse.{ParsesUnsigned, AllDigits, digits_value, without_leading_plus}
use Rattle.std.specs.Char.{digit_value}
use Rattle.std.proofs.lemmas.Bool.Decides.{Decides-eqb}
use Rattle.std.proofs.lemmas.Slice.Eq.{bytes_eq-Decides}
use Rattle.std.proofs.lemmas.Fmt.{parse-decimal, decimal_is_IsNumeral}
use Rattle.sp_command.specs.Reading.{value_of, number_of}
use Rattle.sp_command.specs.Grammar.{Writes}

-- a number's text begins with no plus
plain-digits : (ds : List ℕ) → AllDigits 10 ds → without_leading_plus ds ≡ ds
plain-digits [] all = refl
plain-digits (d ∷ ds) all = go (d == 43) refl where
  go : (b : Bool) → (d == 43) ≡ b → drop (cond b 1 0) (d ∷ ds) ≡ d ∷ ds
  go true is =
      let plus : d ≡ 43 = (Decides-eqb d 43).0 is in
      let low : digit_value 43 < 10 = rw plus at all.0 in absurd (omega arith)
  go false is = refl

pub value_of-decimal : (n : ℕ) → n < 2 ^ 64 → value_of (decimal n) ≡ n
value_of-decimal n small =
    let facts = decimal_is_IsNumeral n small in
    ap (digits_value 10) (plain-digits (decimal n) facts.0.1) ∙ facts.1

pub at_most : (m n : ℕ) → nat_le m n ≡ true → m ≤ n
at_most m n is = grind (arith, tests)

pub is_at_most : (m n : ℕ) → m ≤ n → nat_le m n ≡ true
is_at_most m n le = grind (arith, tests)

err-ok : {E : Type 0} (e : E) (n : ℕ) {P : Type 0} → ◌≡◌ {A = Result ℕ E} (Err e) (Ok n) → P
err-ok e n same = absurd (cc)

-- a word that is no number of 64 bits writes none in the range
pub number_of-unparsed : {E : Type 0} (least most : ℕ) (word : List ℕ) (e : E) → most < 2 ^ 64 → ParsesUnsigned {E = E} 64 10 word (Err e) → None ≡ number_of least most word
unfolding number_of
number_of-unparsed {E} least most word e small parsed = go (bytes_eq (decimal (value_of word)) word) refl (nat_le least (value_of word)) (nat_le (value_of word) most) refl where
  go : (b : Bool) → bytes_eq (decimal (value_of word)) word ≡ b → (l : Bool) (d : Bool) → nat_le (value_of word) most ≡ d
      → None ≡ cond (b && l && d) (Some (value_of word)) None
  go true same true true within =
      let low : value_of word ≤ most = at_most (value_of word) most within in
      let written : word ≡ decimal (value_of word) = sym ((bytes_eq-Decides (decimal (value_of word)) word).0 same) in
      err-ok e (value_of word) (parse-decimal {E = E} 64 (value_of word) word (Err e) (omega arith) (omega arith) written parsed)
  go true same true false within = refl
  go true same false d within = refl
  go false same l d within = refl

-- what is read is what was written
pub number_of-Writes : (least most n : ℕ) (word : List ℕ) → most < 2 ^ 64 → Writes least most n word → number_of least most word ≡ Some n
unfolding number_of
number_of-Writes least most n word small w =
    let value : value_of word ≡ n = ap value_of w.2 ∙ value_of-decimal n (omega arith) in
    let same : bytes_eq (decimal (value_of word)) word ≡ true = (bytes_eq-Decides (decimal (value_of word)) word).1 (ap decimal value ∙ sym w.2) in
    let above : nat_le least (value_of word) ≡ true = is_at_most least (value_of word) (omega arith) in
    let below : nat_le (value_of word) most ≡ true = is_at_most (value_of word) most (omega arith) in
    passed _ _ _ (value_of word) same above below ∙ ap Some value where
      passed : (a b d : Bool) (v : ℕ) → a ≡ true → b ≡ true → d ≡ true → cond (a && b && d) (Some v) None ≡ Some v
      passed a b d v p q r = rw (p, q, r) refl

pub Writes-number_of : (least most n : ℕ) (word : List ℕ) → number_of least most word ≡ Some n → Writes least most n word
unfolding number_of
Writes-number_of least most n word read = go (bytes_eq (decimal (value_of word)) word) refl (nat_le least (value_of word)) refl (nat_le (value_of word) most) refl read where
  go : (a : Bool) → bytes_eq (decimal (value_of word)) word ≡ a → (b : Bool) → nat_le least (value_of word) ≡ b → (d : Bool) → nat_le (value_of word) most ≡ d
      → cond (a && b && d) (Some (value_of word)) None ≡ Some n → Writes least most n word
  go true p true q true r e =
      let value : value_of word ≡ n = cc in
      let low : least ≤ value_of word = at_most least (value_of word) q in
      let high : value_of word ≤ most = at_most (value_of word) most r in
      let same : decimal (value_of word) ≡ word = (bytes_eq-Decides (decimal (value_of word)) word).0 p in
      (omega arith, omega arith, sym same ∙ ap decimal value)
  go true p true q false r e = absurd (cc)
  go true p false q d r e = absurd (cc)
  go false p b q d r e = absurd (cc)
