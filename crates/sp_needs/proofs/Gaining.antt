-- The points of leaves, by their areas.
use Rattle.std.proofs.Common.{◌≡◌, ℕ, Bool, true, false, ◌&&◌, ◌||◌, not, List, [], ◌∷◌, ◌++◌, Some, None, refl, sym, ap, ◌∙◌}
use Rattle.std.proofs.lemmas.List.Folds.{list_any-append}
use Rattle.sp_rect.specs.Plane.{Rectangle, Point, holds}
use Rattle.sp_region.specs.Region.{covered, is_left}
use Rattle.sp_node.specs.Table.{Table, IsValid}
use Rattle.sp_granule.specs.Granules.{granules}
use Rattle.sp_needs.specs.Areas.{leaf_space_at}
use Rattle.sp_needs.specs.Affected.{leaf_has, gains}
use Rattle.sp_needs.proofs.Granules.{leaf_has_is, space_has}

or_false : (b : Bool) → (b || false) ≡ b
or_false true = refl
or_false false = refl

module _ (t : Table) (v : IsValid t) where
  -- a leaf has the points of its space
  leaf_points : (p : Point) (n : ℕ) (s : Rectangle) → leaf_space_at (granules t) n ≡ Some s → leaf_has (granules t) p n ≡ holds s p
  leaf_points p n s e = leaf_has_is t v p n ∙ ap (space_has p) e

  -- one more leaf's space
  pub leaf_more : (p : Point) (n : ℕ) (s : Rectangle) (old new : List Rectangle) → leaf_space_at (granules t) n ≡ Some s → new ≡ old ++ s ∷ [] → covered new p ≡ (covered old p || leaf_has (granules t) p n)
  leaf_more p n s old new e is =
      ap (λ (rs : List Rectangle). covered rs p) is ∙ list_any-append (λ (r : Rectangle). holds r p) old (s ∷ [])
      ∙ ap (λ (b : Bool). covered old p || b) (or_false (holds s p) ∙ sym (leaf_points p n s e))

  -- none where there is no leaf
  no_leaf : (p : Point) (n : ℕ) → leaf_space_at (granules t) n ≡ None → leaf_has (granules t) p n ≡ false
  no_leaf p n e = leaf_has_is t v p n ∙ ap (space_has p) e

  pub leaf_none : (p : Point) (n : ℕ) (old : List Rectangle) → leaf_space_at (granules t) n ≡ None → covered old p ≡ (covered old p || leaf_has (granules t) p n)
  leaf_none p n old e = sym (ap (λ (b : Bool). covered old p || b) (no_leaf p n e) ∙ or_false (covered old p))

module _ (t t' : Table) (v' : IsValid t') where
  -- one more leaf's gain
  pub gain_more :
      (p : Point) (n : ℕ) (s : Rectangle) (old new gain leaf : List Rectangle) → leaf_space_at (granules t') n ≡ Some s → covered new p ≡ (covered old p || covered gain p) → covered gain p ≡ is_left s leaf p → covered leaf p ≡ (false || leaf_has (granules t) p n)
      → covered new p ≡ (covered old p || gains (granules t) (granules t') p n)
  gain_more p n s old new gain leaf e more g h =
      more
      ∙ ap (λ (b : Bool). covered old p || b) (
      g ∙ ap (λ (b : Bool). holds s p && not b) h
      ∙ ap (λ (b : Bool). b && not (leaf_has (granules t) p n)) (sym (leaf_points t' v' p n s e))
      )

  -- what is no leaf gains nothing
  pub gain_none : (p : Point) (n : ℕ) (old : List Rectangle) → leaf_space_at (granules t') n ≡ None → covered old p ≡ (covered old p || gains (granules t) (granules t') p n)
  gain_none p n old e = sym (ap (λ (b : Bool). covered old p || (b && not (leaf_has (granules t) p n))) (no_leaf t' v' p n e) ∙ or_false (covered old p))
