-- Membership by cases.
pub use Rattle.sp_node.specs.Among.{Among}
use Rattle.std.proofs.Common.{List, [], ◌∷◌, ◌++◌, inl, inr, ◌⊎◌, refl, sym, subst}
use Rattle.std.specs.List.{AllByRecursion, flat_map}

module _ {X : Type 0} (x : X) where
  pub among_left : (xs ys : List X) → Among x xs → Among x (xs ++ ys)
  among_left [] ys h = absurd h
  among_left (z ∷ zs) ys (inl e) = inl e
  among_left (z ∷ zs) ys (inr h) = inr (among_left zs ys h)

  pub among_right : (xs ys : List X) → Among x ys → Among x (xs ++ ys)
  among_right [] ys h = h
  among_right (z ∷ zs) ys h = inr (among_right zs ys h)

pub all_among : {X : Type 0} (P : X → Type 0) (x : X) (xs : List X) → AllByRecursion P xs → Among x xs → P x
all_among P x [] h a = absurd a
all_among P x (y ∷ ys) h (inl e) = subst P (sym e) h.0
all_among P x (y ∷ ys) h (inr a) = all_among P x ys h.1 a

module _ {X : Type 0} (x : X) where
  pub among_split : (xs ys : List X) → Among x (xs ++ ys) → Among x xs ⊎ Among x ys
  among_split [] ys h = inr h
  among_split (z ∷ zs) ys (inl e) = inl (inl e)
  among_split (z ∷ zs) ys (inr h) = elim (among_split zs ys h) [ inl a ↦ inl (inr a) | inr b ↦ inr b ]

module _ {X Y : Type 0} (f : Y → List X) where
  pub among_flat_map : (x : X) (y : Y) (ys : List Y) → Among y ys → Among x (f y) → Among x (flat_map f ys)
  among_flat_map x y [] h a = absurd h
  among_flat_map x y (z ∷ zs) (inl e) a = among_left x (f z) (flat_map f zs) (subst (λ (w : Y). Among x (f w)) e a)
  among_flat_map x y (z ∷ zs) (inr h) a = among_right x (f z) (flat_map f zs) (among_flat_map x y zs h a)

  pub from_flat_map : (x : X) (ys : List Y) → Among x (flat_map f ys) → (y : Y) × Among y ys × Among x (f y)
  from_flat_map x [] a = absurd a
  from_flat_map x (z ∷ zs) a = elim (among_split x (f z) (flat_map f zs) a) [
    | inl h ↦ (z, inl refl, h)
    | inr h ↦ let more = from_flat_map x zs h in (more.0, inr more.1, more.2)
  ]
