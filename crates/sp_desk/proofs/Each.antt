-- What holds of each operation that waits.
use Rattle.std.proofs.Common.{refl, ◌≡◌, ℕ, zero, suc, Bool, true, false, cond, List, [], ◌∷◌, ◌++◌, filter, take, drop, Some, subst}
use Rattle.std.specs.Prelude.{slice_get}
use Rattle.std.specs.List.{remove}
use Rattle.sp_desk.specs.declared.stalled.Stalled.{Stalled}

abbrev pub Each : (Stalled → Type 0) → List Stalled → Type 0
Each P [] = Unit {0}
Each P (x ∷ w) = P x × Each P w

module _ (P : Stalled → Type 0) where
  pub each_append : (w v : List Stalled) → Each P w → Each P v → Each P (w ++ v)
  each_append [] v a b = b
  each_append (x ∷ w) v a b = (a.0, each_append w v a.1 b)

  each_take : (i : ℕ) (w : List Stalled) → Each P w → Each P (take i w)
  each_take zero w a = tt
  each_take (suc i) [] a = tt
  each_take (suc i) (x ∷ w) a = (a.0, each_take i w a.1)

  each_drop : (i : ℕ) (w : List Stalled) → Each P w → Each P (drop i w)
  each_drop zero w a = a
  each_drop (suc i) [] a = tt
  each_drop (suc i) (x ∷ w) a = each_drop i w a.1

  pub each_remove : (w : List Stalled) (i : ℕ) → Each P w → Each P (remove w i)
  each_remove w i a = each_append (take i w) (drop (suc i) w) (each_take i w a) (each_drop (suc i) w a)

  pub each_filter : (keep : Stalled → Bool) (w : List Stalled) → Each P w → Each P (filter keep w)
  each_filter keep [] a = tt
  each_filter keep (x ∷ w) a = go (keep x) (each_filter keep w a.1)
    where
      go : (b : Bool) → Each P (filter keep w) → Each P (cond b (x ∷ filter keep w) (filter keep w))
      go true rest = (a.0, rest)
      go false rest = rest

  pub each_at : (w : List Stalled) (i : ℕ) (x : Stalled) → slice_get w i ≡ Some x → Each P w → P x
  each_at [] i x e a = absurd (none e)
    where
      none : slice_get [] i ≡ Some x → ⊥
      none h = cc
  each_at (y ∷ w) zero x e a = subst P (same e) a.0
    where
      same : Some y ≡ Some x → y ≡ x
      same h = cc
  each_at (y ∷ w) (suc i) x e a = each_at w i x e a.1

pub each_along : (P Q : Stalled → Type 0) → ((x : Stalled) → P x → Q x) → (w : List Stalled) → Each P w → Each Q w
each_along P Q f [] a = tt
each_along P Q f (x ∷ w) a = (f x a.0, each_along P Q f w a.1)

-- of each by its index
pub each_by : (P : Stalled → Type 0) (w : List Stalled) → ((i : ℕ) (x : Stalled) → slice_get w i ≡ Some x → P x) → Each P w
each_by P [] h = tt
each_by P (x ∷ w) h = (h 0 x refl, each_by P w (λ i y e. h (suc i) y e))
