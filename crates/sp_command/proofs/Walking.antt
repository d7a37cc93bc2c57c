-- The words, one by one.
use Rattle.std.proofs.Common.{◌≡◌, ℕ, suc, ◌+◌, ◌<◌, List, [], ◌∷◌, length, drop, get_or, Some, None, sym, ap, ◌∙◌, add-one, drop-cons}
use Rattle.std.specs.Prelude.{slice_get}
use Rattle.std.specs.Option.{option_and_then}
use Rattle.std.proofs.lemmas.Option.{slice_get_within, get_or_from_slice_get}
use Rattle.sp_command.specs.declared.reader.Reader.{Reader}
use Rattle.sp_command.specs.Reading.{next, steps}

drop-at : (words : List (List ℕ)) (i : ℕ) (word : List ℕ) → Some word ≡ slice_get words i → drop i words ≡ word ∷ drop (i + 1) words
drop-at words i word at =
    let within : i < length words = slice_get_within words i word (sym at) in
    let first : get_or words i [] ≡ word = get_or_from_slice_get words i word [] (sym at) in
    rw add-one (drop-cons words i [] within ∙ ap (λ w. w ∷ drop (suc i) words) first)

pub steps-one : (words : List (List ℕ)) (i : ℕ) (word : List ℕ) (r s : Reader) → Some word ≡ slice_get words i → Some s ≡ next r word
    → steps s (drop (i + 1) words) ≡ steps r (drop i words)
steps-one words i word r s at read =
    ap (λ o. option_and_then (λ t. steps t (drop (i + 1) words)) o) read ∙ ap (steps r) (sym (drop-at words i word at))

pub steps-none : (words : List (List ℕ)) (i : ℕ) (word : List ℕ) (r : Reader) → Some word ≡ slice_get words i → None ≡ next r word
    → None ≡ steps r (drop i words)
steps-none words i word r at read =
    ap (λ o. option_and_then (λ t. steps t (drop (i + 1) words)) o) read ∙ ap (steps r) (sym (drop-at words i word at))
