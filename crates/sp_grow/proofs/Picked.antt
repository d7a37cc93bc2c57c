-- Members picked by their positions, one after the other.
use Rattle.std.proofs.Common.{◌≡◌, ℕ, zero, suc, ◌+◌, ◌<◌, ◌≤◌, List, [], ◌∷◌, ◌++◌, length, drop, get_or, slice_get, refl, sym, ap, ◌∙◌, subst, arith}
use Rattle.std.specs.Option.{option_to_list}
use Rattle.std.proofs.lemmas.List.{append_assoc, drop_more}
use Rattle.sp_grow.specs.Members.{pick}

module _ {X : Type 0} (xs : List X) (all items : List ℕ) (same : items ≡ all) (i : ℕ) (within : i < length items) (picked picked' : List X) (so_far : picked ++ pick xs (drop i all) ≡ pick xs all) where
  got : (ys : List X) (p : ℕ) (x : X) → p < length ys → x ≡ get_or ys p x → option_to_list (slice_get ys p) ≡ x ∷ []
  got [] p x lt is = absurd (omega arith)
  got (y ∷ ys) zero x lt is = ap (λ (z : X). z ∷ []) (sym is)
  got (y ∷ ys) (suc p) x lt is = got ys p x (omega arith) is

  missed : (ys : List X) (p : ℕ) → length ys ≤ p → option_to_list (slice_get ys p) ≡ []
  missed [] p le = refl
  missed (y ∷ ys) zero le = absurd (omega arith)
  missed (y ∷ ys) (suc p) le = missed ys p (omega arith)

  one_more : drop i all ≡ get_or items i 0 ∷ drop (i + 1) all
  one_more = subst (λ (ps : List ℕ). drop i ps ≡ get_or items i 0 ∷ drop (i + 1) ps) same (drop_more items i 0 within)

  here : List X
  here = option_to_list (slice_get xs (get_or items i 0))

  step : picked ++ (option_to_list (slice_get xs (get_or items i 0)) ++ pick xs (drop (i + 1) all)) ≡ pick xs all
  step = ap (λ (ps : List ℕ). picked ++ pick xs ps) (sym one_more) ∙ so_far

  pub took : (x : X) → picked' ≡ picked ++ x ∷ [] → get_or items i 0 < length xs → x ≡ get_or xs (get_or items i 0) x → picked' ++ pick xs (drop (i + 1) all) ≡ pick xs all
  took x e lt is =
      ap (λ (ys : List X). ys ++ pick xs (drop (i + 1) all)) e ∙ append_assoc picked (x ∷ []) (pick xs (drop (i + 1) all))
      ∙ ap (λ (ys : List X). picked ++ (ys ++ pick xs (drop (i + 1) all))) (sym (got xs (get_or items i 0) x lt is)) ∙ step

  pub passed : picked' ≡ picked → length xs ≤ get_or items i 0 → picked' ++ pick xs (drop (i + 1) all) ≡ pick xs all
  passed e le =
      ap (λ (ys : List X). ys ++ pick xs (drop (i + 1) all)) e
      ∙ ap (λ (ys : List X). picked ++ (ys ++ pick xs (drop (i + 1) all))) (sym (missed xs (get_or items i 0) le)) ∙ step
