-- The granules of a tree cover the space of its root.
use Rattle.std.proofs.Common.{◌≡◌, ℕ, zero, suc, Bool, true, false, ◌&&◌, not, IsTrue, List, [], ◌∷◌, ◌++◌, map, refl, sym, inl, inr, ◌⊎◌}
use Rattle.std.specs.List.{flat_map}
use Rattle.std.proofs.lemmas.List.{map-append}
use Rattle.sp_rect.specs.Plane.{Rectangle, Point, holds, whole}
use Rattle.sp_region.specs.Region.{covered}
use Rattle.sp_node.specs.Nested.{Body, Branch, places}
use Rattle.sp_node.specs.Look.{look}
use Rattle.sp_node.specs.Table.{Table, body_at, level_of}
use Rattle.sp_node.proofs.Among.{among_left, among_right}
use Rattle.sp_granule.specs.Granules.{Granule, granule, granule_of_node, granules, HasPoint}
use Rattle.sp_granule.specs.Descent.{first_of, granule_under, granule_of}

-- the granules of a node and of the nodes below it
abbrev pub granules_under : (level : ℕ) → ℕ → Rectangle → Body level → List Granule
granules_under level number space body = map granule (places level number space body)

-- those of the nodes below it
abbrev pub granules_below : (level : ℕ) → List (Branch (Body level)) → List Granule
granules_below level branches = map granule (flat_map (λ b. places level b.number b.rect b.body) branches)

-- The granule that the descent comes to has the point. So each point of the root's space lies in a granule.
module _ (p : Point) where
  -- the children have a granule with the point, or none of them has the point
  abbrev Walked : (level : ℕ) → ℕ → List (Branch (Body level)) → Type 0
  Walked level number branches =
      HasPoint (granules_below level branches) (first_of p number (λ b. granule_under p level b.number b.body) branches) p
      ⊎ ((first_of p number (λ b. granule_under p level b.number b.body) branches ≡ number) × (covered (map (λ b. b.rect) branches) p ≡ false))

  walked : (level number : ℕ) (branches : List (Branch (Body level))) → ((n : ℕ) (space : Rectangle) (body : Body level) → holds space p ≡ true → HasPoint (granules_under level n space body) (granule_under p level n body) p) → Walked level number branches
  walked level number [] f = inr (refl, refl)
  walked level number (b ∷ bs) f = by_test (holds b.rect p) refl (walked level number bs f)
    where
      split : granules_below level (b ∷ bs) ≡ granules_under level b.number b.rect b.body ++ granules_below level bs
      split = map-append granule (places level b.number b.rect b.body) (flat_map (λ c. places level c.number c.rect c.body) bs)

      by_test : (t : Bool) → holds b.rect p ≡ t → Walked level number bs → Walked level number (b ∷ bs)
      by_test true e rest =
          let h = f b.number b.rect b.body e in
          inl (h.0, rw split (among_left h.0 (granules_under level b.number b.rect b.body) (granules_below level bs) h.1), rw e h.2, h.3)
      by_test false e (inl h) = inl (h.0, rw split (among_right h.0 (granules_under level b.number b.rect b.body) (granules_below level bs) h.1), rw e h.2, h.3)
      by_test false e (inr h) = inr (rw e h.0, rw e h.1)

  both : (s t : Bool) → s ≡ true → t ≡ false → IsTrue (s && not t)
  both true false a b = refl
  both true true a b = cc
  both false t a b = cc

  pub covers : (level number : ℕ) (space : Rectangle) (body : Body level) → holds space p ≡ true → HasPoint (granules_under level number space body) (granule_under p level number body) p
  covers zero number space es h = (granule_of_node 0 number space es, inl refl, refl, both (holds space p) false h refl)
  covers (suc level) number space bs h = elim (walked level number bs (covers level)) [
    | inl k ↦ (k.0, inr k.1, k.2, k.3)
    | inr k ↦ (granule_of_node (suc level) number space bs, inl refl, sym k.0, both (holds space p) (covered (map (λ b. b.rect) bs) p) h k.1)
  ]

-- so each point of space lies in a granule of each tree
pub covers_space : (t : Table) (p : Point) → IsTrue (holds whole p) → HasPoint (granules t) (granule_of t p) p
unfolding granules granule_of
covers_space t p h = covers p (level_of t) t.root whole (body_at (look t.nodes) (level_of t) t.root) h
