-- Granules of a valid tree by their numbers: what the table has under a number decides the granule.
use Rattle.std.proofs.Common.{◌≡◌, ℕ, zero, suc, Bool, true, false, cond, ◌&&◌, List, [], ◌∷◌, Option, Some, None, map, refl, sym, ap, ◌∙◌, subst, inl, inr}
use Rattle.std.specs.Prelude.{nat_eq, MatchOption}
use Rattle.std.specs.Option.{option_map, option_and_then}
use Rattle.sp_rect.specs.Plane.{Rectangle, Point, holds}
use Rattle.sp_node.specs.declared.node.Node.{Node}
use Rattle.sp_node.specs.declared.node.Node.TheVariants.{Leaf, Inner}
use Rattle.sp_node.specs.Among.{Among}
use Rattle.sp_node.specs.Look.{look, entries_of_node}
use Rattle.sp_node.specs.Nested.{Body, Branch, Place, node}
use Rattle.sp_node.specs.Table.{Table, places_of, IsValid}
use Rattle.sp_node.specs.Standing.{IsNodeOf, HasNoNode}
use Rattle.sp_node.proofs.Standing.{node_stands}
use Rattle.sp_granule.specs.Granules.{Granule, standing, granule, granule_of_node, granules, numbered, space_of, in_granule}
use Rattle.sp_granule.proofs.Numbered.{number_kept, unnumbered, numbered_among, root_space, place_space}
use Rattle.sp_needs.specs.Areas.{area_of, area_at, is_leaf_node, holes_in, space_in, node_area, leaf_space_in, leaf_space, leaf_space_at}
use Rattle.sp_needs.specs.Affected.{is_leaf_with, leaf_has, IsSameLeaf, IsKept}
use Rattle.sp_needs.proofs.Membership.{equal_from, apart_from}

-- the granule of a node with its number and space
abbrev pub granule_as : ℕ → Rectangle → Node → Granule
granule_as n s m = record { number = n; is_leaf = is_leaf_node m; space = s; holes = holes_in m; entries = map standing (entries_of_node m) }

-- that of a node of a valid tree, which may be its root
abbrev pub node_granule : ℕ → Bool → Node → Option Granule
node_granule n is_root m = option_map (λ s. granule_as n s m) (space_in is_root m)

as_node : (level n : ℕ) (s : Rectangle) (body : Body level) → granule_of_node level n s body ≡ granule_as n s (node level body)
as_node zero n s body = refl
as_node (suc level) n s branches = ap (λ (rs : List Rectangle). record { number = n; is_leaf = false; space = s; holes = rs; entries = [] }) (same branches)
  where
    same : (bs : List (Branch (Body level))) → map (λ b. b.rect) bs ≡ holes_in (node (suc level) bs)
    same [] = refl
    same (b ∷ bs) = ap (λ (rs : List Rectangle). b.rect ∷ rs) (same bs)

module _ (t : Table) (v : IsValid t) where
  -- the granule of a node where it stands
  record At (n : ℕ) (m : Node) : Type 0 where
    pub space : Rectangle
    pub found : numbered (granules t) n ≡ Some (granule_as n space m)

  at_place : (n : ℕ) (m : Node) → IsNodeOf t n m → At n m
  unfolding granules
  at_place n m h =
      let p = h.place in
      record {
        space = p.space;
        found =
            ap (numbered (granules t)) (sym h.named) ∙ numbered_among (places_of t) p v.distinct h.among
            ∙ ap (λ (g : Granule). Some g) (as_node p.level p.number p.space p.body ∙ ap (λ (k : ℕ). granule_as k p.space (node p.level p.body)) h.named ∙ ap (λ (x : Node). granule_as n p.space x) (sym h.is));
      }

  space_is : (n : ℕ) (m : Node) → IsNodeOf t n m → space_in (nat_eq n t.root) m ≡ space_of (granules t) n
  space_is n m h = by_test (nat_eq n t.root) refl
    where
      by_test : (b : Bool) → nat_eq n t.root ≡ b → space_in b m ≡ space_of (granules t) n
      by_test true e = sym (ap (space_of (granules t)) (equal_from n t.root e) ∙ root_space t v)
      by_test false e = (place_space t v n m (apart_from n t.root e) h).0

  -- what the table has under a number decides the granule of that number
  pub numbered_is : (n : ℕ) → numbered (granules t) n ≡ option_and_then (node_granule n (nat_eq n t.root)) (look t.nodes n)
  unfolding granules
  numbered_is n = by_case (look t.nodes n) (node_stands t v n)
    where
      by_case : (o : Option Node) → MatchOption o (HasNoNode t n) (IsNodeOf t n) → numbered (granules t) n ≡ option_and_then (node_granule n (nat_eq n t.root)) o
      by_case None h = unnumbered (places_of t) n h
      by_case (Some m) h =
          let at = at_place n m h in
          at.found
          ∙ sym (ap (option_map (λ (s : Rectangle). granule_as n s m)) (space_is n m h ∙ ap (option_map (λ (g : Granule). g.space)) at.found))

  -- and a node has one
  pub granule_at : (n : ℕ) (m : Node) → look t.nodes n ≡ Some m → (s : Rectangle) × (numbered (granules t) n ≡ Some (granule_as n s m))
  granule_at n m e =
      let at = at_place n m (subst (λ (o : Option Node). MatchOption o (HasNoNode t n) (IsNodeOf t n)) e (node_stands t v n)) in
      (at.space, at.found)

  area_of_granule : (n : ℕ) (b : Bool) (m : Node) → option_map area_of (node_granule n b m) ≡ node_area b m
  area_of_granule n b m = by_space (space_in b m)
    where
      by_space : (o : Option Rectangle) → option_map area_of (option_map (λ s. granule_as n s m) o) ≡ option_map (λ s. record { space = s; holes = holes_in m }) o
      by_space None = refl
      by_space (Some s) = refl

  -- and its area
  pub area_is : (n : ℕ) → area_at (granules t) n ≡ option_and_then (node_area (nat_eq n t.root)) (look t.nodes n)
  area_is n = ap (option_map area_of) (numbered_is n) ∙ by_node (look t.nodes n)
    where
      by_node : (o : Option Node) → option_map area_of (option_and_then (node_granule n (nat_eq n t.root)) o) ≡ option_and_then (node_area (nat_eq n t.root)) o
      by_node None = refl
      by_node (Some m) = area_of_granule n (nat_eq n t.root) m

  leaf_of_granule : (n : ℕ) (b : Bool) (m : Node) → option_and_then leaf_space (node_granule n b m) ≡ leaf_space_in b m
  leaf_of_granule n b (Leaf es) = by_space (space_in b (Leaf es))
    where
      by_space : (o : Option Rectangle) → option_and_then leaf_space (option_map (λ s. granule_as n s (Leaf es)) o) ≡ o
      by_space None = refl
      by_space (Some s) = refl
  leaf_of_granule n b (Inner cs) = by_space (space_in b (Inner cs))
    where
      by_space : (o : Option Rectangle) → option_and_then leaf_space (option_map (λ s. granule_as n s (Inner cs)) o) ≡ None
      by_space None = refl
      by_space (Some s) = refl

  -- and its space, where it is a leaf
  pub leaf_space_is : (n : ℕ) → leaf_space_at (granules t) n ≡ option_and_then (leaf_space_in (nat_eq n t.root)) (look t.nodes n)
  leaf_space_is n = ap (option_and_then leaf_space) (numbered_is n) ∙ by_node (look t.nodes n)
    where
      by_node : (o : Option Node) → option_and_then leaf_space (option_and_then (node_granule n (nat_eq n t.root)) o) ≡ option_and_then (leaf_space_in (nat_eq n t.root)) o
      by_node None = refl
      by_node (Some m) = leaf_of_granule n (nat_eq n t.root) m

  -- the node of a granule
  pub record HasNode (g : Granule) : Type 0 where
    pub node : Node
    pub stands : look t.nodes g.number ≡ Some node
    pub is : g ≡ granule_as g.number g.space node

  node_of : (n : ℕ) (g : Granule) → numbered (granules t) n ≡ Some g → g.number ≡ n → HasNode g
  node_of n g e named = by_node (look t.nodes n) refl (sym (numbered_is n) ∙ e)
    where
      by_node : (o : Option Node) → look t.nodes n ≡ o → option_and_then (node_granule n (nat_eq n t.root)) o ≡ Some g → HasNode g
      by_node None l h = cc
      by_node (Some m) l h = by_space (space_in (nat_eq n t.root) m) h
        where
          by_space : (o : Option Rectangle) → option_map (λ s. granule_as n s m) o ≡ Some g → HasNode g
          by_space None h = cc
          by_space (Some s) h =
              let same : granule_as n s m ≡ g = cc in
              let space : s ≡ g.space = ap (λ (x : Granule). x.space) same in
              record {
                node = m;
                stands = ap (look t.nodes) named ∙ l;
                is = sym same ∙ ap (λ (k : ℕ). granule_as k s m) (sym named) ∙ ap (λ (r : Rectangle). granule_as g.number r m) space;
              }

-- a granule that is found is one of them
pub found_among : (gs : List Granule) (n : ℕ) (g : Granule) → numbered gs n ≡ Some g → Among g gs × (g.number ≡ n)
found_among [] n g e = cc
found_among (x ∷ gs) n g e = by_test (nat_eq n x.number) refl e (found_among gs n g)
  where
    by_test : (b : Bool) → nat_eq n x.number ≡ b → cond b (Some x) (numbered gs n) ≡ Some g → (numbered gs n ≡ Some g → Among g gs × (g.number ≡ n)) → Among g (x ∷ gs) × (g.number ≡ n)
    by_test true k h f = let same : x ≡ g = cc in (inl (sym same), ap (λ (y : Granule). y.number) (sym same) ∙ sym (equal_from n x.number k))
    by_test false k h f = let more = f h in (inr more.0, more.1)

place_of : (ps : List Place) (g : Granule) → Among g (map granule ps) → (p : Place) × Among p ps × (g ≡ granule p)
place_of [] g a = absurd a
place_of (p ∷ ps) g (inl e) = (p, inl refl, e)
place_of (p ∷ ps) g (inr a) = let more = place_of ps g a in (more.0, inr more.1, more.2)

-- the points of a leaf, by its space
abbrev pub space_has : Point → Option Rectangle → Bool
space_has p None = false
space_has p (Some s) = holds s p

module _ (t : Table) (v : IsValid t) where
  -- each granule is found by its number
  pub found_by_number : (g : Granule) → Among g (granules t) → numbered (granules t) g.number ≡ Some g
  unfolding granules
  found_by_number g a =
      let p = place_of (places_of t) g a in
      ap (λ (x : Granule). numbered (map granule (places_of t)) x.number) p.2 ∙ ap (numbered (map granule (places_of t))) (number_kept p.0) ∙ numbered_among (places_of t) p.0 v.distinct p.1 ∙ ap (λ (x : Granule). Some x) (sym p.2)

  pub node_of_granule : (g : Granule) → Among g (granules t) → HasNode t v g
  node_of_granule g a = node_of t v g.number g (found_by_number g a) refl

  -- two of one number are one
  pub same_granule : (g h : Granule) → Among g (granules t) → Among h (granules t) → g.number ≡ h.number → g ≡ h
  same_granule g h a b e = let k = sym (found_by_number g a) ∙ ap (numbered (granules t)) e ∙ found_by_number h b in cc

  -- a leaf has all the points of its space
  pub leaf_open : (g : Granule) → Among g (granules t) → g.is_leaf ≡ true → g.holes ≡ []
  leaf_open g a l = let h = node_of_granule g a in by_node h.node h.is
    where
      by_node : (m : Node) → g ≡ granule_as g.number g.space m → g.holes ≡ []
      by_node (Leaf es) e = ap (λ (x : Granule). x.holes) e
      by_node (Inner cs) e = let no = sym l ∙ ap (λ (x : Granule). x.is_leaf) e in cc

  -- its area is its space
  pub leaf_area : (n : ℕ) (s : Rectangle) → leaf_space_at (granules t) n ≡ Some s → area_at (granules t) n ≡ Some (record { space = s; holes = [] })
  leaf_area n s h = by_case (numbered (granules t) n) (λ g e. (found_among (granules t) n g e).0) h
    where
      by_case : (o : Option Granule) → ((g : Granule) → o ≡ Some g → Among g (granules t)) → option_and_then leaf_space o ≡ Some s → option_map area_of o ≡ Some (record { space = s; holes = [] })
      by_case None f h = cc
      by_case (Some g) f h = by_kind g.is_leaf refl h
        where
          by_kind : (b : Bool) → g.is_leaf ≡ b → cond b (Some g.space) None ≡ Some s → Some (area_of g) ≡ Some (record { space = s; holes = [] })
          by_kind false e h = cc
          by_kind true e h =
              let same : g.space ≡ s = cc in
              ap (λ (r : Rectangle). Some (record { space = r; holes = g.holes })) same ∙ ap (λ (hs : List Rectangle). Some (record { space = s; holes = hs })) (leaf_open g (f g refl) e)

  pub leaf_has_is : (p : Point) (n : ℕ) → leaf_has (granules t) p n ≡ space_has p (leaf_space_at (granules t) n)
  leaf_has_is p n = by_case (numbered (granules t) n) (λ g e. (found_among (granules t) n g e).0)
    where
      open_leaf : (b : Bool) → (b && true) ≡ b
      open_leaf true = refl
      open_leaf false = refl

      by_case : (o : Option Granule) → ((g : Granule) → o ≡ Some g → Among g (granules t)) → is_leaf_with p o ≡ space_has p (option_and_then leaf_space o)
      by_case None f = refl
      by_case (Some g) f = by_kind g.is_leaf refl
        where
          by_kind : (b : Bool) → g.is_leaf ≡ b → (b && in_granule g p) ≡ space_has p (cond b (Some g.space) None)
          by_kind false e = refl
          by_kind true e = ap (λ (hs : List Rectangle). in_granule (record { number = g.number; is_leaf = g.is_leaf; space = g.space; holes = hs; entries = g.entries }) p) (leaf_open g (f g refl) e) ∙ open_leaf (holds g.space p)

-- leaves of the same space have the same area
pub same_leaf : (t t' : Table) → IsValid t → IsValid t' → (n : ℕ) → IsSameLeaf (granules t) (granules t') n → IsKept (granules t) (granules t') n
same_leaf t t' v v' n h = (leaf_area t' v' n h.0 h.2 ∙ sym (leaf_area t v n h.0 h.1), h.2 ∙ sym h.1)
