-- A word before and after its first `=`.
use Rattle.std.proofs.Common.{◌≡◌, ℕ, ◌<◌, Bool, true, false, List, length, Option, refl, sym, ap, ◌∙◌, cond, arith, tests}
use Rattle.std.specs.Prelude.{nat_lt, Result, Ok, Err, IfOk}
use Rattle.std.specs.List.{position_or_len, before_first, after_first}
use Rattle.std.specs.Option.{option_map}
use Rattle.sp_command.specs.declared.options.Options.{Options}
use Rattle.sp_command.specs.declared.reader.Reader.{Reader}
use Rattle.sp_command.specs.Reading.{is_equals, with_joined, next_option, waiting, key_of}

pub below : (m n : ℕ) → m < n → nat_lt m n ≡ true
below m n lt = grind (arith, tests)

pub not_below : (m n : ℕ) → m ≡ n → nat_lt m n ≡ false
not_below m n same = grind (arith, tests)

pub chosen : {A : Type 0} (b : Bool) (x y : A) → b ≡ true → cond b x y ≡ x
chosen b x y is = rw is refl

pub other : {A : Type 0} (b : Bool) (x y : A) → b ≡ false → cond b x y ≡ y
other b x y is = rw is refl

pub next_option-joined : {E : Type 0} (o : Options) (word name value : List ℕ) (r : Result (Option Reader) E) → position_or_len is_equals word < length word
    → name ≡ before_first is_equals word → value ≡ after_first is_equals word → IfOk r (λ s. s ≡ with_joined o name value) → IfOk r (λ s. s ≡ next_option o word)
unfolding next_option
next_option-joined o word name value (Err e) cut n v is = is
next_option-joined o word name value (Ok s) cut n v is =
    let taken : with_joined o (before_first is_equals word) (after_first is_equals word) ≡ next_option o word = sym (chosen _ _ _ (below _ _ cut)) in
    is ∙ ap (λ x. with_joined o x value) n ∙ ap (λ x. with_joined o (before_first is_equals word) x) v ∙ taken

pub next_option-plain : (o : Options) (word : List ℕ) (s : Option Reader) → position_or_len is_equals word ≡ length word → s ≡ option_map (waiting o) (key_of word) → s ≡ next_option o word
unfolding next_option
next_option-plain o word s lacks is = is ∙ sym (other _ _ _ (not_below _ _ lacks))
