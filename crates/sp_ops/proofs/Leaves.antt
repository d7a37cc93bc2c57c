-- The leaves of entries as granules, and rectangles that meet as points.
use Rattle.std.proofs.Common.{◌≡◌, ℕ, zero, suc, Bool, true, false, IsTrue, map, Option, Some, None, refl, sym, ap, ◌∙◌, subst, inl, inr, ◌⊎◌, arith}
use Rattle.std.specs.Prelude.{MatchOption}
use Rattle.std.specs.Int.{int_max}
use Rattle.std.proofs.lemmas.Int.{ints, clamps}
use Rattle.sp_rect.specs.Plane.{Rectangle, IsRectangle, Point, point, holds, meets}
use Rattle.sp_rect.specs.Inside.{Overlap-from_meets, meets-from_Overlap}
use Rattle.sp_region.proofs.Points.{Holds-from_test, test-from_Holds}
use Rattle.sp_node.specs.declared.node.Entry.{Entry}
use Rattle.sp_node.specs.declared.node.Node.{Node}
use Rattle.sp_node.specs.Among.{Among}
use Rattle.sp_node.specs.Look.{look, entries_of_node}
use Rattle.sp_node.specs.Index.{leaf_with, has_number}
use Rattle.sp_node.specs.Nested.{Body, Place, node}
use Rattle.sp_node.specs.Table.{Table, IsValid, places_of, entries_of}
use Rattle.sp_node.specs.Standing.{IsLeafOf, HasNoEntry}
use Rattle.sp_node.proofs.Adopt.{has}
use Rattle.sp_node.proofs.Among.{all_among, among_flat_map}
use Rattle.sp_node.proofs.Entries.{has_from_among}
use Rattle.sp_node.proofs.Laws.{one_of_number}
use Rattle.sp_node.proofs.Single.{own, single_leaf, first_leaf}
use Rattle.sp_node.proofs.Standing.{own_all, keys_distinct, leaf_stands, place_stands}
use Rattle.sp_granule.specs.Granules.{Granule, granule, granule_of_node, granules, Standing, standing}
use Rattle.sp_granule.proofs.Numbered.{number_kept}
use Rattle.sp_protection.specs.Needs.{StandsIn, EntryMeets}
use Rattle.sp_ops.proofs.Arranging.{among_map, from_map}

-- rectangles that meet have a common point, and the other way round
pub common_point : (a b : Rectangle) → IsRectangle a → IsRectangle b → meets a b ≡ true → (p : Point) × IsTrue (holds a p) × IsTrue (holds b p)
common_point a b v w m =
    let o = Overlap-from_meets a b m in
    let p : Point = point (int_max a.x1 b.x1) (int_max a.y1 b.y1) in (
      p,
      test-from_Holds a p (record { from_left = omega (arith, ints, clamps); to_right = omega (arith, ints, clamps); from_below = omega (arith, ints, clamps); to_above = omega (arith, ints, clamps) }),
      test-from_Holds b p (record { from_left = omega (arith, ints, clamps); to_right = omega (arith, ints, clamps); from_below = omega (arith, ints, clamps); to_above = omega (arith, ints, clamps) }),
    )

pub meet_at : (a b : Rectangle) (p : Point) → IsTrue (holds a p) → IsTrue (holds b p) → meets a b ≡ true
meet_at a b p h k =
    let x = Holds-from_test a p h in
    let y = Holds-from_test b p k in
    meets-from_Overlap a b (record { left = omega (arith, ints); right = omega (arith, ints); lower = omega (arith, ints); upper = omega (arith, ints) })

-- an entry of a node stands in its granule, and what stands in the granule is one of the node's
pub stands_at : (level number : ℕ) (space : Rectangle) (body : Body level) (e : Entry) → Among e (entries_of_node (node level body)) → StandsIn e (granule_of_node level number space body)
stands_at zero number space body e a = (refl, among_map standing body e a)
stands_at (suc level) number space body e a = absurd a

at_stands : (level number : ℕ) (space : Rectangle) (body : Body level) (e : Entry) → StandsIn e (granule_of_node level number space body) → has_number (entries_of_node (node level body)) e.number ≡ true
at_stands zero number space body e s =
    let at = from_map standing body (standing e) s.1 in
    ap (has_number body) (ap (λ (x : Standing). x.number) at.2) ∙ has_from_among at.0 body at.1
at_stands (suc level) number space body e s = absurd s.1

module _ (t : Table) (v : IsValid t) where
  pub granules_are : granules t ≡ map granule (places_of t)
  unfolding granules
  granules_are = refl

  pub granule_among : (place : Place) → Among place (places_of t) → Among (granule place) (granules t)
  granule_among place a = subst (Among (granule place)) (sym granules_are) (among_map granule (places_of t) place a)

  pub place_of_granule : (g : Granule) → Among g (granules t) → (place : Place) × Among place (places_of t) × (g ≡ granule place)
  place_of_granule g a = from_map granule (places_of t) g (subst (Among g) granules_are a)

  -- the leaf that is known of an entry is a granule in which it stands
  pub leaf_granule : (e : Entry) (k : ℕ) → Among e (entries_of t) → leaf_with t.nodes e.number ≡ Some k → (g : Granule) × Among g (granules t) × (g.number ≡ k) × StandsIn e g
  leaf_granule e k a h =
      let at : IsLeafOf t e.number k = subst (λ (o : Option ℕ). MatchOption o (HasNoEntry t e.number) (IsLeafOf t e.number)) h (leaf_stands t v e.number) in
      let there : Among at.entry (entries_of t) = subst (Among at.entry) (own_all t v) (among_flat_map own at.entry at.place (places_of t) at.among at.has) in
      let same : at.entry ≡ e = one_of_number t v at.entry e there a at.is in
      (granule at.place, granule_among at.place at.among, number_kept at.place ∙ at.named, subst (λ (x : Entry). StandsIn x (granule at.place)) same (stands_at at.place.level at.place.number at.place.space at.place.body at.entry at.has))

  -- a granule in which an entry stands is the leaf that is known of it
  pub granule_leaf : (e : Entry) (g : Granule) → Among g (granules t) → StandsIn e g → leaf_with t.nodes e.number ≡ Some g.number
  granule_leaf e g a s =
      let at = place_of_granule g a in
      let in_place : StandsIn e (granule at.0) = subst (StandsIn e) at.2 s in
      let here : has (look t.nodes at.0.number) e.number ≡ true = ap (λ (o : Option Node). has o e.number) (place_stands t v at.0 at.1) ∙ at_stands at.0.level at.0.number at.0.space at.0.body e in_place in
      let named : g.number ≡ at.0.number = ap (λ (x : Granule). x.number) at.2 ∙ number_kept at.0 in
      by_leaf at.0.number here named (first_leaf e.number t.nodes (keys_distinct t v))
    where
      clash : (b : Bool) → b ≡ true → b ≡ false → ⊥
      clash b x y = cc

      by_leaf : (k : ℕ) → has (look t.nodes k) e.number ≡ true → g.number ≡ k → (((j : ℕ) × (leaf_with t.nodes e.number ≡ Some j) × (has (look t.nodes j) e.number ≡ true)) ⊎ ((leaf_with t.nodes e.number ≡ None) × ((j : ℕ) → has (look t.nodes j) e.number ≡ false))) → leaf_with t.nodes e.number ≡ Some g.number
      by_leaf k here named (inl h) = h.1 ∙ ap (λ (n : ℕ). Some n) (single_leaf t v e.number h.0 k h.2 here ∙ sym named)
      by_leaf k here named (inr h) = absurd (clash (has (look t.nodes k) e.number) here (h.1 k))

  -- an entry meets a rectangle in a point exactly where the corners say so
  pub entry_space : (e : Entry) → Among e (entries_of t) → IsRectangle e.rect
  entry_space e a = all_among (λ (x : Entry). IsRectangle x.rect) e (entries_of t) v.in_space a

  pub entry_meets : (rect : Rectangle) → IsRectangle rect → (e : Entry) → Among e (entries_of t) → meets e.rect rect ≡ true → EntryMeets e rect
  entry_meets rect w e a m = common_point e.rect rect (entry_space e a) w m
