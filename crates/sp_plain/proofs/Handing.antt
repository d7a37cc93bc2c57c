-- A pass over records that hands each of those in a rectangle one of the values that are left.
use Rattle.std.proofs.Common.{◌≡◌, ℕ, ◌+◌, ◌<◌, Bool, true, false, List, [], ◌∷◌, ◌++◌, length, get_or, set, take, drop, replicate, refl, sym, ap, subst, ◌∙◌, arith, length-take-le}
use Rattle.std.proofs.lemmas.List.{drop_more, get_or_at, length-map}
use Rattle.std.proofs.lemmas.List.Edits.{map_over_more}
use Rattle.sp_rect.specs.Store.{Part, touches, within, with_value, written}
use Rattle.sp_rect.specs.declared.record.Record.{Record}

split_at : (part : Part) (x : Record) (xs : List Record) (b : Bool) → touches part x ≡ b → length (within part (x ∷ xs)) ≡ length (within part (x ∷ [])) + length (within part xs)
split_at part x xs true e = rw e (omega arith)
split_at part x xs false e = rw e (omega arith)

module _ (part : Part) (v : List ℕ) where
  pub handed_more : (old items : List Record) (i : ℕ) (x y : Record) (left rest : List (List ℕ)) → i < length old → items ≡ written part v (take i old) ++ drop i old → left ≡ replicate (length (within part (drop i old))) v → x ≡ get_or items i x
      → ((n : ℕ) → left ≡ replicate (length (within part (x ∷ [])) + n) v → (y ≡ with_value part v x) × (rest ≡ replicate n v))
      → (set items i y ≡ written part v (take (i + 1) old) ++ drop (i + 1) old) × (rest ≡ replicate (length (within part (drop (i + 1) old))) v)
  handed_more old items i x y left rest h e l is turn =
      let front = written part v (take i old) in
      let long : length front ≡ i = length-map (take i old) (with_value part v) ∙ length-take-le i old (omega arith) in
      let first : drop i old ≡ get_or old i x ∷ drop (i + 1) old = drop_more old i x h in
      let split : items ≡ front ++ get_or old i x ∷ drop (i + 1) old = e ∙ ap (λ (xs : List Record). front ++ xs) first in
      let here : x ≡ get_or old i x = is ∙ (ap (λ (xs : List Record). get_or xs i x) split ∙ get_or_at front (get_or old i x) (drop (i + 1) old) x i long) in
      let more : drop i old ≡ x ∷ drop (i + 1) old = subst (λ (z : Record). drop i old ≡ z ∷ drop (i + 1) old) (sym here) first in
      let count : length (within part (drop i old)) ≡ length (within part (x ∷ [])) + length (within part (drop (i + 1) old)) = ap (λ (xs : List Record). length (within part xs)) more ∙ split_at part x (drop (i + 1) old) (touches part x) refl in
      let done = turn (length (within part (drop (i + 1) old))) (l ∙ ap (λ (n : ℕ). replicate n v) count) in
      (ap (λ (z : Record). set items i z) done.0 ∙ map_over_more (with_value part v) old items i x h e is, done.1)
