-- Lists to which those of a list are added of which something is so.
use Rattle.std.proofs.Common.{◌≡◌, ℕ, ◌+◌, ◌<◌, ◌↔◌, List, [], ◌∷◌, ◌++◌, length, take, get_or, sym, subst, inl, inr, ◌⊎◌}
use Rattle.sp_rect.specs.Plane.{Rectangle}
use Rattle.sp_node.specs.Among.{Among}
use Rattle.sp_node.proofs.Among.{among_left, among_right, among_split}
use Rattle.sp_granule.specs.Granules.{Granule}
use Rattle.sp_needs.specs.Affected.{AreThose, AreAdded, HasLeftOf, HasLeftOfAny}
use Rattle.sp_needs.proofs.Membership.{here, still, last}

pushed : (n x : ℕ) (xs : List ℕ) → Among n (xs ++ x ∷ []) → Among n xs ⊎ (n ≡ x)
pushed n x xs a = elim (among_split n xs (x ∷ []) a) [
  | inl b ↦ inl b
  | inr (inl e) ↦ inr e
  | inr (inr b) ↦ absurd b
]

module _ (P : ℕ → Type 0) (xs : List ℕ) (i x : ℕ) (within : i < length xs) (is : x ≡ get_or xs i x) where
  pub added_one : (old now new : List ℕ) → AreAdded P (take i xs) old now → P x → new ≡ now ++ x ∷ [] → AreAdded P (take (i + 1) xs) old new
  added_one old now new h p e n = (
    λ a. elim (pushed n x now (subst (Among n) e a)) [
      | inl b ↦ elim ((h n).0 b) [
        | inl c ↦ inl c
        | inr c ↦ inr (still xs i x within is n c.0, c.1)
      ]
      | inr s ↦ inr (subst (λ (m : ℕ). Among m (take (i + 1) xs)) (sym s) (last xs i x within is), subst P (sym s) p)
    ],
    λ a. subst (Among n) (sym e) (elim a [
      | inl b ↦ among_left n now (x ∷ []) ((h n).1 (inl b))
      | inr b ↦ elim (here xs i x within is n b.0) [
        | inl c ↦ among_left n now (x ∷ []) ((h n).1 (inr (c, b.1)))
        | inr s ↦ among_right n now (x ∷ []) (inl s)
      ]
    ]),
  )

  pub added_none : (old now new : List ℕ) → AreAdded P (take i xs) old now → (P x → ⊥) → new ≡ now → AreAdded P (take (i + 1) xs) old new
  added_none old now new h p e n = (
    λ a. elim ((h n).0 (subst (Among n) e a)) [
      | inl b ↦ inl b
      | inr b ↦ inr (still xs i x within is n b.0, b.1)
    ],
    λ a. subst (Among n) (sym e) (elim a [
      | inl b ↦ (h n).1 (inl b)
      | inr b ↦ elim (here xs i x within is n b.0) [
        | inl c ↦ (h n).1 (inr (c, b.1))
        | inr s ↦ absurd (p (subst P s b.1))
      ]
    ]),
  )

  pub those_one : (now new : List ℕ) → AreThose P (take i xs) now → P x → new ≡ now ++ x ∷ [] → AreThose P (take (i + 1) xs) new
  those_one now new h p e n = (
    λ a. elim (pushed n x now (subst (Among n) e a)) [
      | inl b ↦ let c = (h n).0 b in (still xs i x within is n c.0, c.1)
      | inr s ↦ (subst (λ (m : ℕ). Among m (take (i + 1) xs)) (sym s) (last xs i x within is), subst P (sym s) p)
    ],
    λ a. subst (Among n) (sym e) (elim (here xs i x within is n a.0) [
      | inl c ↦ among_left n now (x ∷ []) ((h n).1 (c, a.1))
      | inr s ↦ among_right n now (x ∷ []) (inl s)
    ]),
  )

  pub those_none : (now new : List ℕ) → AreThose P (take i xs) now → (P x → ⊥) → new ≡ now → AreThose P (take (i + 1) xs) new
  those_none now new h p e n = (
    λ a. let c = (h n).0 (subst (Among n) e a) in (still xs i x within is n c.0, c.1),
    λ a. subst (Among n) (sym e) (elim (here xs i x within is n a.0) [
      | inl c ↦ (h n).1 (c, a.1)
      | inr s ↦ absurd (p (subst P s a.1))
    ]),
  )

-- one more rectangle
pub reached_more : (gs : List Granule) (sources rects : List Rectangle) (i : ℕ) (rect : Rectangle) → i < length rects → rect ≡ get_or rects i rect → (now new : List ℕ) → ((n : ℕ) → Among n now ↔ HasLeftOfAny gs sources (take i rects) n) → ((n : ℕ) → Among n new ↔ (Among n now ⊎ HasLeftOf gs sources rect n)) → (n : ℕ) → Among n new ↔ HasLeftOfAny gs sources (take (i + 1) rects) n
reached_more gs sources rects i rect within is now new h k n = (
  λ a. elim ((k n).0 a) [
    | inl b ↦ let c = (h n).0 b in (c.0, still rects i rect within is c.0 c.1, c.2)
    | inr b ↦ (rect, last rects i rect within is, b)
  ],
  λ a. (k n).1 (elim (here rects i rect within is a.0 a.1) [
    | inl c ↦ inl ((h n).1 (a.0, c, a.2))
    | inr s ↦ inr (subst (λ (r : Rectangle). HasLeftOf gs sources r n) s a.2)
  ]),
)
