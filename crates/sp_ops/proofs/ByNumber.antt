-- Granules of a valid tree by their numbers: what the table has under a number decides the granule.
use Rattle.std.proofs.Common.{◌≡◌, ℕ, zero, suc, Bool, true, false, cond, List, [], ◌∷◌, Option, Some, None, map, refl, sym, ap, ◌∙◌, subst, inl, inr, arith}
use Rattle.std.specs.Prelude.{nat_eq, MatchOption}
use Rattle.std.specs.Option.{option_map, option_and_then}
use Rattle.std.proofs.lemmas.Bool.Decides.{nat_tests}
use Rattle.sp_rect.specs.Plane.{Rectangle}
use Rattle.sp_rect.specs.Inside.{bound_of}
use Rattle.sp_rect.specs.Plane.{whole}
use Rattle.sp_node.specs.declared.node.Node.{Node}
use Rattle.sp_node.specs.Among.{Among}
use Rattle.sp_node.specs.Look.{look, entries_of_node}
use Rattle.sp_node.specs.Nested.{Body, Branch, Place, node}
use Rattle.sp_node.specs.Table.{Table, places_of, IsValid}
use Rattle.sp_node.specs.Standing.{IsNodeOf, HasNoNode}
use Rattle.sp_node.proofs.Standing.{node_stands}
use Rattle.sp_granule.specs.Granules.{Granule, standing, granule, granule_of_node, granules, numbered, space_of, member_rects}
use Rattle.sp_granule.proofs.Numbered.{number_kept, unnumbered, numbered_among, root_space, place_space}
use Rattle.sp_ops.specs.declared.areas.Area.{Area}
use Rattle.sp_ops.specs.Changes.{area_of, area_at, is_leaf_node, holes_in}

pub equal_from : (j k : ℕ) → nat_eq j k ≡ true → j ≡ k
equal_from j k e = grind (arith, nat_tests)

pub apart_from : (j k : ℕ) → nat_eq j k ≡ false → j ≡ k → ⊥
apart_from j k e same = grind (arith, nat_tests)

-- the space of a node of a valid tree, which may be its root
abbrev pub own_space : Bool → Node → Option Rectangle
own_space true n = Some whole
own_space false n = bound_of (member_rects n)

-- the granule of a node with its number and space
abbrev pub granule_as : ℕ → Rectangle → Node → Granule
granule_as n s m = record { number = n; is_leaf = is_leaf_node m; space = s; holes = holes_in m; entries = map standing (entries_of_node m) }

-- that of a node of a valid tree, which may be its root
abbrev pub node_granule : ℕ → Bool → Node → Option Granule
node_granule n is_root m = option_map (λ s. granule_as n s m) (own_space is_root m)

as_node : (level n : ℕ) (s : Rectangle) (body : Body level) → granule_of_node level n s body ≡ granule_as n s (node level body)
as_node zero n s body = refl
as_node (suc level) n s branches = ap (λ (rs : List Rectangle). record { number = n; is_leaf = false; space = s; holes = rs; entries = [] }) (same branches)
  where
    same : (bs : List (Branch (Body level))) → map (λ b. b.rect) bs ≡ holes_in (node (suc level) bs)
    same [] = refl
    same (b ∷ bs) = ap (λ (rs : List Rectangle). b.rect ∷ rs) (same bs)

module _ (t : Table) (v : IsValid t) where
  -- the granule of a node where it stands
  record At (n : ℕ) (m : Node) : Type 0 where
    pub space : Rectangle
    pub found : numbered (granules t) n ≡ Some (granule_as n space m)

  at_place : (n : ℕ) (m : Node) → IsNodeOf t n m → At n m
  unfolding granules
  at_place n m h =
      let p = h.place in
      record {
        space = p.space;
        found =
            ap (numbered (granules t)) (sym h.named) ∙ numbered_among (places_of t) p v.distinct h.among
            ∙ ap (λ (g : Granule). Some g) (as_node p.level p.number p.space p.body ∙ ap (λ (k : ℕ). granule_as k p.space (node p.level p.body)) h.named ∙ ap (λ (x : Node). granule_as n p.space x) (sym h.is));
      }

  space_is : (n : ℕ) (m : Node) → IsNodeOf t n m → own_space (nat_eq n t.root) m ≡ space_of (granules t) n
  space_is n m h = by_test (nat_eq n t.root) refl
    where
      by_test : (b : Bool) → nat_eq n t.root ≡ b → own_space b m ≡ space_of (granules t) n
      by_test true e = sym (ap (space_of (granules t)) (equal_from n t.root e) ∙ root_space t v)
      by_test false e = (place_space t v n m (apart_from n t.root e) h).0

  -- what the table has under a number decides the granule of that number
  pub numbered_is : (n : ℕ) → numbered (granules t) n ≡ option_and_then (node_granule n (nat_eq n t.root)) (look t.nodes n)
  unfolding granules
  numbered_is n = by_case (look t.nodes n) (node_stands t v n)
    where
      by_case : (o : Option Node) → MatchOption o (HasNoNode t n) (IsNodeOf t n) → numbered (granules t) n ≡ option_and_then (node_granule n (nat_eq n t.root)) o
      by_case None h = unnumbered (places_of t) n h
      by_case (Some m) h =
          let at = at_place n m h in
          at.found
          ∙ sym (ap (option_map (λ (s : Rectangle). granule_as n s m)) (space_is n m h ∙ ap (option_map (λ (g : Granule). g.space)) at.found))

  -- and a node has one
  pub granule_at : (n : ℕ) (m : Node) → look t.nodes n ≡ Some m → (s : Rectangle) × (numbered (granules t) n ≡ Some (granule_as n s m))
  granule_at n m e =
      let at = at_place n m (subst (λ (o : Option Node). MatchOption o (HasNoNode t n) (IsNodeOf t n)) e (node_stands t v n)) in
      (at.space, at.found)

  -- the node of a granule
  pub record HasNode (g : Granule) : Type 0 where
    pub node : Node
    pub stands : look t.nodes g.number ≡ Some node
    pub is : g ≡ granule_as g.number g.space node

  node_of : (n : ℕ) (g : Granule) → numbered (granules t) n ≡ Some g → g.number ≡ n → HasNode g
  node_of n g e named = by_node (look t.nodes n) refl (sym (numbered_is n) ∙ e)
    where
      by_node : (o : Option Node) → look t.nodes n ≡ o → option_and_then (node_granule n (nat_eq n t.root)) o ≡ Some g → HasNode g
      by_node None l h = cc
      by_node (Some m) l h = by_space (own_space (nat_eq n t.root) m) h
        where
          by_space : (o : Option Rectangle) → option_map (λ s. granule_as n s m) o ≡ Some g → HasNode g
          by_space None h = cc
          by_space (Some s) h =
              let same : granule_as n s m ≡ g = cc in
              let space : s ≡ g.space = ap (λ (x : Granule). x.space) same in
              record {
                node = m;
                stands = ap (look t.nodes) named ∙ l;
                is = sym same ∙ ap (λ (k : ℕ). granule_as k s m) (sym named) ∙ ap (λ (r : Rectangle). granule_as g.number r m) space;
              }

-- a granule that is found is one of them
pub found_among : (gs : List Granule) (n : ℕ) (g : Granule) → numbered gs n ≡ Some g → Among g gs × (g.number ≡ n)
found_among [] n g e = cc
found_among (x ∷ gs) n g e = by_test (nat_eq n x.number) refl e (found_among gs n g)
  where
    by_test : (b : Bool) → nat_eq n x.number ≡ b → cond b (Some x) (numbered gs n) ≡ Some g → (numbered gs n ≡ Some g → Among g gs × (g.number ≡ n)) → Among g (x ∷ gs) × (g.number ≡ n)
    by_test true k h f = let same : x ≡ g = cc in (inl (sym same), ap (λ (y : Granule). y.number) (sym same) ∙ sym (equal_from n x.number k))
    by_test false k h f = let more = f h in (inr more.0, more.1)

place_of : (ps : List Place) (g : Granule) → Among g (map granule ps) → (p : Place) × Among p ps × (g ≡ granule p)
place_of [] g a = absurd a
place_of (p ∷ ps) g (inl e) = (p, inl refl, e)
place_of (p ∷ ps) g (inr a) = let more = place_of ps g a in (more.0, inr more.1, more.2)

module _ (t : Table) (v : IsValid t) where
  -- each granule is found by its number
  pub found_by_number : (g : Granule) → Among g (granules t) → numbered (granules t) g.number ≡ Some g
  unfolding granules
  found_by_number g a =
      let p = place_of (places_of t) g a in
      ap (λ (x : Granule). numbered (map granule (places_of t)) x.number) p.2 ∙ ap (numbered (map granule (places_of t))) (number_kept p.0) ∙ numbered_among (places_of t) p.0 v.distinct p.1 ∙ ap (λ (x : Granule). Some x) (sym p.2)

  pub node_of_granule : (g : Granule) → Among g (granules t) → HasNode t v g
  node_of_granule g a = node_of t v g.number g (found_by_number g a) refl

  -- two of one number are one
  pub same_granule : (g h : Granule) → Among g (granules t) → Among h (granules t) → g.number ≡ h.number → g ≡ h
  same_granule g h a b e = let k = sym (found_by_number g a) ∙ ap (numbered (granules t)) e ∙ found_by_number h b in cc

module _ (t : Table) (v : IsValid t) where
  pub numbered_none : (n : ℕ) → look t.nodes n ≡ None → numbered (granules t) n ≡ None
  numbered_none n e = numbered_is t v n ∙ ap (option_and_then (node_granule n (nat_eq n t.root))) e

  -- the area of a node's granule
  pub no_area : (n : ℕ) → look t.nodes n ≡ None → area_at (granules t) n ≡ None
  no_area n e = ap (option_map area_of) (numbered_is t v n ∙ ap (option_and_then (node_granule n (nat_eq n t.root))) e)

  pub no_space : (n : ℕ) → space_of (granules t) n ≡ None → area_at (granules t) n ≡ None
  no_space n e = by_case (numbered (granules t) n) e
    where
      by_case : (o : Option Granule) → option_map (λ (g : Granule). g.space) o ≡ None → option_map area_of o ≡ None
      by_case None h = refl
      by_case (Some g) h = cc

  pub node_area : (n : ℕ) (m : Node) (s : Rectangle) → look t.nodes n ≡ Some m → space_of (granules t) n ≡ Some s → area_at (granules t) n ≡ Some (record { is_leaf = is_leaf_node m; space = s; holes = holes_in m })
  node_area n m s e f =
      let at = granule_at t v n m e in
      let k : Some at.0 ≡ Some s = sym (ap (option_map (λ (g : Granule). g.space)) at.1) ∙ f in
      let same : at.0 ≡ s = cc in
      ap (option_map area_of) at.1 ∙ ap (λ (r : Rectangle). Some (record { is_leaf = is_leaf_node m; space = r; holes = holes_in m })) same

-- the granule of an area
pub area_some : (gs : List Granule) (n : ℕ) (a : Area) → area_at gs n ≡ Some a → (g : Granule) × (numbered gs n ≡ Some g) × (a ≡ area_of g)
area_some gs n a e = by_case (numbered gs n) e
  where
    by_case : (o : Option Granule) → option_map area_of o ≡ Some a → (g : Granule) × (o ≡ Some g) × (a ≡ area_of g)
    by_case None h = cc
    by_case (Some g) h = let same : area_of g ≡ a = cc in (g, refl, sym same)

pub area_none : (gs : List Granule) (n : ℕ) → area_at gs n ≡ None → numbered gs n ≡ None
area_none gs n e = by_case (numbered gs n) e
  where
    by_case : (o : Option Granule) → option_map area_of o ≡ None → o ≡ None
    by_case None h = refl
    by_case (Some g) h = cc
