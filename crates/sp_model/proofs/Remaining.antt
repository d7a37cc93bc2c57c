-- What is left of a list behind a place.
use Rattle.std.proofs.Common.{◌≡◌, ◌≢◌, ℕ, zero, suc, ◌+◌, ◌-◌, ◌<◌, ◌≤◌, Bool, true, false, List, [], ◌∷◌, length, drop, nat_eq, refl, sym, ap, ◌∙◌, subst, arith, length-drop}
use Rattle.std.proofs.lemmas.List.{drop-drop}
use Rattle.std.proofs.lemmas.Bool.Decides.{nat_tests}
use Rattle.sp_list.specs.Emptiness.{is_empty}

empty-length : {A : Type 0} (xs : List A) → is_empty xs ≡ nat_eq (length xs) 0
empty-length [] = grind (arith, nat_tests)
empty-length (x ∷ xs) = grind (arith, nat_tests)

all_asked : (asked all left : ℕ) → left ≡ all - asked → asked ≤ all → nat_eq asked all ≡ nat_eq left 0
all_asked asked all left e h = grind (arith, nat_tests)

pub none-left : {A : Type 0} (asked : ℕ) (xs : List A) → asked ≤ length xs → nat_eq asked (length xs) ≡ is_empty (drop asked xs)
none-left {A} asked xs h = all_asked asked (length xs) (length (drop asked xs)) (length-drop asked xs) h ∙ sym (empty-length (drop asked xs))

pub some-left : {A : Type 0} (asked : ℕ) (xs : List A) → drop asked xs ≢ [] → asked < length xs
some-left zero [] some = absurd (some refl)
some-left zero (x ∷ xs) some = omega arith
some-left (suc n) [] some = absurd (some refl)
some-left (suc n) (x ∷ xs) some = let r = some-left n xs some in omega (arith, r)

pub drop-next : {A : Type 0} (asked : ℕ) (xs : List A) → drop (asked + 1) xs ≡ drop 1 (drop asked xs)
drop-next asked xs = sym (drop-drop 1 asked xs)
