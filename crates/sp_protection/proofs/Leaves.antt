-- What stands in a leaf lies in its granule, so that no owned entry meets a rectangle that another transaction guards.
use Rattle.std.proofs.Common.{◌≡◌, ◌≢◌, ℕ, zero, suc, Bool, true, false, IsTrue, List, [], ◌∷◌, map, refl, sym, ap, ◌∙◌, subst, inl, inr, true≢false, arith}
use Rattle.std.proofs.lemmas.Int.{ints, clamps}
use Rattle.std.specs.Int.{int_max}
use Rattle.std.specs.List.{flat_map}
use Rattle.sp_rect.specs.Plane.{Point, point, Rectangle, IsRectangle, Encloses, holds, meets, whole}
use Rattle.sp_rect.specs.Inside.{Overlap-from_meets}
use Rattle.sp_region.proofs.Points.{Holds-from_test, test-from_Holds, both_pass}
use Rattle.sp_locks.specs.declared.mode.Mode.TheVariants.{IX, S}
use Rattle.sp_locks.specs.declared.row.Name.TheVariants.{Granule as OnGranule}
use Rattle.sp_node.specs.declared.node.Entry.{Entry}
use Rattle.sp_node.specs.Among.{Among}
use Rattle.sp_node.specs.Look.{look, entries_of_node}
use Rattle.sp_node.specs.Nested.{Body, places, node, entries}
use Rattle.sp_node.specs.Table.{Table, IsValid, level_of, body_at, places_of, entries_of}
use Rattle.sp_node.proofs.Among.{all_among, from_flat_map, among_flat_map}
use Rattle.sp_node.proofs.Laws.{leaf_has_points}
use Rattle.sp_granule.specs.Granules.{Granule, Standing, standing, granule, granule_of_node, granules, in_granule}
use Rattle.sp_granule.proofs.Covering.{covers_space}
use Rattle.sp_protection.specs.Holding.{Lock, HoldsMode, AllCompatible}
use Rattle.sp_protection.specs.Guarding.{Guarded, Owned, HoldsMeeting, AreAmong}
use Rattle.sp_protection.proofs.Clashes.{clash, shared-against_intent}

pub among_map : {A B : Type 0} (f : A → B) (x : A) (xs : List A) → Among x xs → Among (f x) (map f xs)
among_map f x [] h = absurd h
among_map f x (y ∷ ys) (inl e) = inl (ap f e)
among_map f x (y ∷ ys) (inr h) = inr (among_map f x ys h)

pub from_map : {A B : Type 0} (f : A → B) (y : B) (xs : List A) → Among y (map f xs) → (x : A) × Among x xs × (f x ≡ y)
from_map f y [] h = absurd h
from_map f y (x ∷ xs) (inl e) = (x, inl refl, sym e)
from_map f y (x ∷ xs) (inr h) = let r = from_map f y xs h in (r.0, inr r.1, r.2)

-- the points of what stands in a node are the granule's, where its space encloses its entries
held_by_node : (level number : ℕ) (space : Rectangle) (body : Body level) (e : Standing) (p : Point) → Among e (granule_of_node level number space body).entries
    → ((x : Entry) → Among x (entries_of_node (node level body)) → Encloses space x.rect) → IsTrue (holds e.rect p) → IsTrue (in_granule (granule_of_node level number space body) p)
held_by_node zero number space body e p stands enclosed here =
    let x = from_map standing e body stands in
    both_pass (holds space p) true (test-from_Holds space p (enclosed x.0 x.1 p (Holds-from_test x.0.rect p (subst (λ (s : Standing). IsTrue (holds s.rect p)) (sym x.2) here)))) refl
held_by_node (suc level) number space body e p stands enclosed here = absurd stands

pub leaf-holds_entries : (t : Table) → IsValid t → (g : Granule) (e : Standing) (p : Point) → Among g (granules t) → Among e g.entries → IsTrue (holds e.rect p) → IsTrue (in_granule g p)
unfolding granules
leaf-holds_entries t valid g e p i stands here =
    let place = from_map granule g (places_of t) i in
    subst (λ (x : Granule). IsTrue (in_granule x p)) place.2
    (held_by_node place.0.level place.0.number place.0.space place.0.body e p (subst (λ (x : Granule). Among e x.entries) (sym place.2) stands) (leaf_has_points t valid place.0 place.1) here)

pub no_phantom : (tree : Table) (locks : List Lock) (t u : ℕ) (rect : Rectangle) (e : Standing) (p : Point) → IsValid tree → AllCompatible locks → u ≢ t → Guarded (granules tree) locks t rect → Owned (granules tree) locks u e → IsTrue (holds e.rect p) → holds rect p ≡ false
no_phantom tree locks t u rect e p valid compatible apart guarded owned here = not_true (holds rect p) meet
  where
    not_true : (b : Bool) → (b ≡ true → ⊥) → b ≡ false
    not_true b h = grind arith

    meet : holds rect p ≡ true → ⊥
    meet there =
        clash locks t u (OnGranule owned.leaf.number) S IX compatible apart shared-against_intent
        (guarded.leaves owned.leaf p owned.among owned.is_leaf (leaf-holds_entries tree valid owned.leaf e p owned.among owned.entry here) there) owned.intent

in_space : (rect : Rectangle) (p : Point) → IsRectangle rect → IsTrue (holds rect p) → IsTrue (holds whole p)
in_space rect p v here =
    let h = Holds-from_test rect p here in
    test-from_Holds whole p (record { from_left = omega (arith, ints); to_right = omega (arith, ints); from_below = omega (arith, ints); to_above = omega (arith, ints) })

-- S on each granule that meets the rectangle guards it, since granules cover space
pub search_guards : (tree : Table) (locks : List Lock) (t : ℕ) (rect : Rectangle) → IsRectangle rect → HoldsMeeting (granules tree) locks t rect → Guarded (granules tree) locks t rect
search_guards tree locks t rect v meeting = record {
  leaves = λ g p i _ had here. meeting g p i had here;
  points = λ p here.
      let h = covers_space tree p (in_space rect p v here) in
      (h.0, h.1, h.3, meeting h.0 p h.1 h.3 here);
}

pub same_guards : (gs gs' : List Granule) (locks : List Lock) (t : ℕ) (rect : Rectangle) → AreAmong gs gs' → AreAmong gs' gs → Guarded gs locks t rect → Guarded gs' locks t rect
same_guards gs gs' locks t rect among among' guarded = record {
  leaves = λ g p i is_leaf had here.
      let k = among' g i in
      subst (λ n. HoldsMode locks t (OnGranule n) S) k.2.number (guarded.leaves k.0 p k.1 (k.2.is_leaf ∙ is_leaf) (k.2.points p ∙ had) here);
  points = λ p here.
      let h = guarded.points p here in
      let k = among h.0 h.1 in
      (k.0, k.1, k.2.points p ∙ h.2, subst (λ n. HoldsMode locks t (OnGranule n) S) (sym k.2.number) h.3);
}

-- two rectangles that meet by their corners have a common point
pub common_point : (a b : Rectangle) → IsRectangle a → IsRectangle b → meets a b ≡ true → (p : Point) × IsTrue (holds a p) × IsTrue (holds b p)
common_point a b v w m =
    let o = Overlap-from_meets a b m in
    let p : Point = point (int_max a.x1 b.x1) (int_max a.y1 b.y1) in (
      p,
      test-from_Holds a p (record { from_left = omega (arith, ints, clamps); to_right = omega (arith, ints, clamps); from_below = omega (arith, ints, clamps); to_above = omega (arith, ints, clamps) }),
      test-from_Holds b p (record { from_left = omega (arith, ints, clamps); to_right = omega (arith, ints, clamps); from_below = omega (arith, ints, clamps); to_above = omega (arith, ints, clamps) }),
    )

-- what stands in a node is one of the entries below it
standing_below : (level number : ℕ) (space : Rectangle) (body : Body level) (g : Granule) (e : Standing) → Among g (map granule (places level number space body)) → Among e g.entries → (x : Entry) × Among x (entries level body) × (standing x ≡ e)
standing_below zero number space body g e (inl s) stands = from_map standing e body (subst (λ (x : Granule). Among e x.entries) s stands)
standing_below zero number space body g e (inr n) stands = absurd n
standing_below (suc level) number space body g e (inl s) stands = absurd (subst (λ (x : Granule). Among e x.entries) s stands)
standing_below (suc level) number space body g e (inr i) stands =
    let place = from_map granule g (flat_map (λ b. places level b.number b.rect b.body) body) i in
    let branch = from_flat_map (λ b. places level b.number b.rect b.body) place.0 body place.1 in
    let below = standing_below level branch.0.number branch.0.rect branch.0.body g e (subst (λ (x : Granule). Among x (map granule (places level branch.0.number branch.0.rect branch.0.body))) place.2 (among_map granule place.0 (places level branch.0.number branch.0.rect branch.0.body) branch.2)) stands in
    (below.0, among_flat_map (λ b. entries level b.body) below.0 branch.0 body branch.1 below.1, below.2)

pub standing_entry : (t : Table) (g : Granule) (e : Standing) → Among g (granules t) → Among e g.entries → (x : Entry) × Among x (entries_of t) × (standing x ≡ e)
unfolding granules
standing_entry t g e i stands = standing_below (level_of t) t.root whole (body_at (look t.nodes) (level_of t) t.root) g e i stands

-- the same by corners
pub owned_apart : (tree : Table) (locks : List Lock) (t u : ℕ) (rect : Rectangle) (e : Standing) → IsValid tree → AllCompatible locks → u ≢ t → IsRectangle rect → Guarded (granules tree) locks t rect → Owned (granules tree) locks u e → meets e.rect rect ≡ false
owned_apart tree locks t u rect e valid compatible apart v guarded owned = go (meets e.rect rect) refl
  where
    go : (b : Bool) → meets e.rect rect ≡ b → b ≡ false
    go false k = refl
    go true k =
        let x = standing_entry tree owned.leaf e owned.among owned.entry in
        let w = subst (λ (s : Standing). IsRectangle s.rect) x.2 (all_among (λ (y : Entry). IsRectangle y.rect) x.0 (entries_of tree) valid.in_space x.1) in
        let p = common_point e.rect rect w v k in
        absurd (true≢false (sym p.2 ∙ no_phantom tree locks t u rect e p.0 valid compatible apart guarded owned p.1))
