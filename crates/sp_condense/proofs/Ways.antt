-- The way down to the leaf of an entry.
use Rattle.std.proofs.Common.{◌≡◌, ℕ, zero, suc, ◌+◌, ◌-◌, ◌^◌, ◌<◌, ◌≤◌, Bor, Bool, true, false, ◌||◌, List, [], ◌∷◌, length, map, drop, get_or, slice_get, Option, Some, None, is_some, refl, sym, ap, ◌∙◌, subst, inl, inr, arith}
use Rattle.std.specs.Prelude.{nat_eq}
use Rattle.std.specs.Option.{IsSome, option_copied}
use Rattle.std.specs.List.{AllByRecursion, flat_map}
use Rattle.std.proofs.lemmas.List.Folds.{list_any-append}
use Rattle.sp_rect.specs.Plane.{Rectangle, encloses}
use Rattle.sp_rect.specs.Inside.{Inside, bound_of, inside_bound_of, Inside-trans, all_four, test_passes}
use Rattle.std.specs.Int.Signed.{le_z}
use Rattle.sp_node.specs.declared.node.Entry.{Entry}
use Rattle.sp_node.specs.declared.node.Child.{Child}
use Rattle.sp_node.specs.declared.node.Shape.{Shape}
use Rattle.sp_node.specs.declared.node.Node.{Node}
use Rattle.sp_node.specs.declared.node.Node.TheVariants.{Leaf, Inner}
use Rattle.sp_node.specs.Among.{Among}
use Rattle.sp_node.specs.Index.{has_number, entry_of}
use Rattle.sp_node.specs.Look.{look, IsAscending, entries_in, entries_of_node}
use Rattle.sp_node.specs.Nested.{Body, Branch, Place, rects, rect_of, node, AreSound}
use Rattle.sp_node.specs.Standing.{IsLeafOf}
use Rattle.sp_node.specs.Table.{Table, IsValid, level_of, places_of, entries_of, body_at, children_in, Stands, IsInner}
use Rattle.sp_node.proofs.Among.{all_among, among_flat_map}
use Rattle.sp_node.proofs.Lists.{all_unmap}
use Rattle.sp_node.proofs.Entries.{has_from_among}
use Rattle.sp_node.proofs.Single.{own}
use Rattle.sp_node.proofs.Standing.{own_all, place_stands, entry_of_among}
use Rattle.sp_split.specs.Split.{is_among}
use Rattle.sp_split.proofs.Members.{equal_from}
use Rattle.sp_grow.specs.Below.{numbers, branch_at}
use Rattle.sp_grow.proofs.After.{own_low, own_distinct, own_look}
use Rattle.sp_grow.proofs.Spots.{root_spot}
use Rattle.sp_condense.proofs.Powers.{level_low}
use Rattle.sp_condense.specs.Way.{Leads, IsBelow, IsNotBelow, LeadsTo, HasNone}

-- a rectangle that lies inside another is enclosed
encloses_from : (s r : Rectangle) → Inside r s → encloses s r ≡ true
encloses_from s r i = all_four (le_z s.x1 r.x1) (le_z r.x2 s.x2) (le_z s.y1 r.y1) (le_z r.y2 s.y2) (test_passes _ _ i.left) (test_passes _ _ i.right) (test_passes _ _ i.lower) (test_passes _ _ i.upper)

-- a member stands at some place
place_among : {X : Type 0} (xs : List X) (x : X) → Among x xs → (j : ℕ) × (j < length xs) × (get_or xs j x ≡ x)
place_among [] x a = absurd a
place_among (y ∷ ys) x (inl e) = (0, omega arith, sym e)
place_among (y ∷ ys) x (inr a) = let p = place_among ys x a in let lt = p.1 in (suc p.0, omega (arith, lt), p.2)

-- where the leaf is below no child, it is not below the node
pub not_below :
    (at : ℕ → Option Node) (rect : Rectangle) (steps number leaf : ℕ) (cs : List Child) → (number ≡ leaf → ⊥) → children_in (at number) ≡ cs
    → ((j : ℕ) (d : Child) → j < length cs → encloses (get_or cs j d).rect rect ≡ true → IsNotBelow at rect (steps - 1) (get_or cs j d).node leaf) → IsNotBelow at rect steps number leaf
not_below at rect steps number leaf cs other is each zero le below = other below
not_below at rect steps number leaf cs other is each (suc level) le below =
    let c : Child = below.0 in
    let p = place_among cs c (subst (Among c) is below.1) in
    each p.0 c p.1 (subst (λ (x : Child). encloses x.rect rect ≡ true) (sym p.2) below.2) level (omega arith) (subst (λ (x : Child). IsBelow at rect level x.node leaf) (sym p.2) below.3)

-- a list that has an entry of the number has it at some place
pub not_none : (es : List Entry) (q : ℕ) → has_number es q ≡ true → HasNone es q → ⊥
not_none [] q h none = cc
not_none (x ∷ es) q h none = by_test (nat_eq q x.number) refl h (λ m. not_none es q m (λ i e at. none (suc i) e at))
  where
    by_test : (b : Bool) → nat_eq q x.number ≡ b → (b || has_number es q) ≡ true → (has_number es q ≡ true → ⊥) → ⊥
    by_test true k h rec = none 0 x refl (sym (equal_from q x.number k))
    by_test false k h rec = rec h

no_member : {X : Type 0} (i : ℕ) (x : X) → slice_get [] i ≡ Some x → ⊥
no_member i x e = cc

-- a leaf is led to from itself alone
leads_leaf : (at : ℕ → Option Node) (number : ℕ) (path : List ℕ) (leaf : ℕ) → children_in (at number) ≡ [] → Leads at number path leaf → number ≡ leaf
leads_leaf at number [] leaf none h = h
leads_leaf at number (i ∷ is) leaf none h = absurd (no_member i h.0 (subst (λ (cs : List Child). slice_get cs i ≡ Some h.0) none h.1))

module _ (t : Table) (number : ℕ) (path : List ℕ) (q : ℕ) (way : LeadsTo t number path q) where
  -- the leaf to which a way leads has the entry
  pub leaf_has : (es : List Entry) → look t.nodes number ≡ Some (Leaf es) → has_number es q ≡ true
  leaf_has es is =
      let same = leads_leaf (look t.nodes) number path way.0 (ap children_in is) way.1 in
      ap (λ (o : Option Node). has_number (entries_in o) q) (sym is) ∙ ap (λ (n : ℕ). has_number (entries_in (look t.nodes n)) q) same ∙ way.2

  -- a way ends at a leaf
  pub not_empty : look t.nodes number ≡ None → ⊥
  not_empty is =
      let same = leads_leaf (look t.nodes) number path way.0 (ap children_in is) way.1 in
      none (ap (λ (o : Option Node). has_number (entries_in o) q) (sym is) ∙ ap (λ (n : ℕ). has_number (entries_in (look t.nodes n)) q) same ∙ way.2)
    where
      none : false ≡ true → ⊥
      none e = cc

placed : (cs : List Child) (i : ℕ) (c : Child) → slice_get cs i ≡ Some c → (i < length cs) × ((e : Child) → get_or cs i e ≡ c)
placed [] i c h = absurd (no_member i c h)
placed (d ∷ cs) zero c h = (omega arith, λ e. same h)
  where
    same : Some d ≡ Some c → d ≡ c
    same h = cc
placed (d ∷ cs) (suc i) c h = let p = placed cs i c h in let lt = p.0 in (omega (arith, lt), p.1)

-- from an inner node a way goes on at the child of its first position
pub record Onward (t : Table) (path : List ℕ) (cs : List Child) (q : ℕ) : Type 0 where
  pub some : 0 < length path
  pub within : (d : ℕ) → get_or path 0 d < length cs
  pub rest : (d : ℕ) (e : Child) → LeadsTo t (get_or cs (get_or path 0 d) e).node (drop 1 path) q

pub onward : (t : Table) (number : ℕ) (path : List ℕ) (q : ℕ) (cs : List Child) → look t.nodes number ≡ Some (Inner cs) → LeadsTo t number path q → Onward t path cs q
onward t number [] q cs is way = absurd (none (ap (λ (o : Option Node). has_number (entries_in o) q) (sym is) ∙ ap (λ (n : ℕ). has_number (entries_in (look t.nodes n)) q) way.1 ∙ way.2))
  where
    none : false ≡ true → ⊥
    none e = cc
onward t number (i ∷ path) q cs is way =
    let c : Child = way.1.0 in
    let p = placed cs i c (subst (λ (ds : List Child). slice_get ds i ≡ Some c) (ap children_in is) way.1.1) in
    record {
      some = omega arith;
      within = λ d. p.0;
      rest = λ d e. (way.0, subst (λ (x : Child). Leads (look t.nodes) x.node path way.0) (sym (p.1 e)) way.1.2, way.2);
    }

-- a leaf of a sound tree stands below its root, and each rectangle on the way encloses what stands in the leaf
module _ (shape : Shape) (at : ℕ → Option Node) (leaf : ℕ) (es : List Entry) (is : at leaf ≡ Some (Leaf es)) (e : Entry) (i : Among e es) where
  pub record Reaches (level number : ℕ) : Type 0 where
    pub below : IsBelow at e.rect level number leaf
    pub inside : (b : Rectangle) → bound_of (rects level (body_at at level number)) ≡ Some b → Inside e.rect b

  abbrev Comes : ℕ → Child → Type 0
  Comes level c = Stands at level c.node → AreSound shape level (body_at at level c.node) → is_among (numbers level c.node (body_at at level c.node)) leaf ≡ true → Reaches level c.node

  abbrev IsSoundChild : (level : ℕ) → Branch (Body level) → Type 0
  IsSoundChild level b = (bound_of (rects level b.body) ≡ Some b.rect) × (shape.min ≤ length b.body) × (length b.body ≤ shape.max) × AreSound shape level b.body

  -- the child through which it is reached
  record Through (level : ℕ) (cs : List Child) : Type 0 where
    child : Child
    among : Among child cs
    reaches : Reaches level child.node
    inside : Inside e.rect child.rect

  through : (level : ℕ) (cs : List Child) → ((c : Child) → Comes level c) → AllByRecursion (λ c. Stands at level c.node) cs → AllByRecursion (IsSoundChild level) (map (branch_at at level) cs) → is_among (flat_map (λ (b : Branch (Body level)). numbers level b.number b.body) (map (branch_at at level) cs)) leaf ≡ true → Through level cs
  through level [] rec s sound h = absurd (never h)
    where
      never : false ≡ true → ⊥
      never e = cc
  through level (c ∷ cs) rec s sound h = by_test (is_among (numbers level c.node (body_at at level c.node)) leaf) refl (through level cs rec s.1 sound.1)
    where
      others : List ℕ
      others = flat_map (λ (b : Branch (Body level)). numbers level b.number b.body) (map (branch_at at level) cs)

      by_test : (b : Bool) → is_among (numbers level c.node (body_at at level c.node)) leaf ≡ b → (is_among (flat_map (λ (b : Branch (Body level)). numbers level b.number b.body) (map (branch_at at level) cs)) leaf ≡ true → Through level cs) → Through level (c ∷ cs)
      by_test true k more = let r = rec c s.0 sound.0.3 k in record { child = c; among = inl refl; reaches = r; inside = r.inside c.rect sound.0.0 }
      by_test false k more =
          let parts = sym (list_any-append (nat_eq leaf) (numbers level c.node (body_at at level c.node)) (flat_map (λ (b : Branch (Body level)). numbers level b.number b.body) (map (branch_at at level) cs))) ∙ h in
          let r = more (sym (ap (λ (b : Bool). b || is_among (flat_map (λ (b : Branch (Body level)). numbers level b.number b.body) (map (branch_at at level) cs)) leaf) k) ∙ parts) in
          record { child = r.child; among = inr r.among; reaches = r.reaches; inside = r.inside }

  pub reach : (level number : ℕ) → Stands at level number → AreSound shape level (body_at at level number) → is_among (numbers level number (body_at at level number)) leaf ≡ true → Reaches level number
  reach zero number s sound h = by_test (nat_eq leaf number) refl h
    where
      by_test : (b : Bool) → nat_eq leaf number ≡ b → (b || false) ≡ true → Reaches 0 number
      by_test true k h =
          let same : leaf ≡ number = equal_from leaf number k in
          let here : entries_in (at number) ≡ es = ap (λ (n : ℕ). entries_in (at n)) (sym same) ∙ ap entries_in is in
          record { below = sym same; inside = λ b bound. all_among (λ (x : Entry). Inside x.rect b) e (entries_in (at number)) (all_unmap (λ r. Inside r b) (λ (x : Entry). x.rect) (entries_in (at number)) (inside_bound_of (rects 0 (entries_in (at number))) b bound)) (subst (Among e) (sym here) i) }
      by_test false k h = cc
  reach (suc level) number s sound h = by_test (nat_eq leaf number) refl h (through level (children_in (at number)) (λ c. reach level c.node) s.1 sound)
    where
      reached : Through level (children_in (at number)) → Reaches (suc level) number
      reached r = record {
        below = (r.child, r.among, encloses_from r.child.rect e.rect r.inside, r.reaches.below);
        inside = λ b bound. Inside-trans e.rect r.child.rect b r.inside (all_among (λ (c : Child). Inside c.rect b) r.child (children_in (at number)) (all_unmap (λ (x : Branch (Body level)). Inside x.rect b) (branch_at at level) (children_in (at number)) (all_unmap (λ x. Inside x b) (rect_of (suc level)) (body_at at (suc level) number) (inside_bound_of (rects (suc level) (body_at at (suc level) number)) b bound))) r.among);
      }

      by_test : (b : Bool) → nat_eq leaf number ≡ b → (b || is_among (flat_map (λ (b : Branch (Body level)). numbers level b.number b.body) (map (branch_at at level) (children_in (at number)))) leaf) ≡ true
          → (is_among (flat_map (λ (b : Branch (Body level)). numbers level b.number b.body) (map (branch_at at level) (children_in (at number)))) leaf ≡ true → Through level (children_in (at number))) → Reaches (suc level) number
      by_test true k h more = absurd (subst IsInner (ap at (sym (equal_from leaf number k)) ∙ is) s.0)
      by_test false k h more = reached (more h)

-- where an entry of a valid tree stands
pub record Seat (t : Table) (q leaf : ℕ) : Type 0 where
  pub entry : Entry
  pub entries : List Entry
  pub is : look t.nodes leaf ≡ Some (Leaf entries)
  pub among : Among entry entries
  pub named : entry.number ≡ q
  pub found : entry_of t.nodes q ≡ Some entry

pub held : (t : Table) (q leaf : ℕ) → Seat t q leaf → has_number (entries_in (look t.nodes leaf)) q ≡ true
held t q leaf s = ap (λ (o : Option Node). has_number (entries_in o) q) s.is ∙ ap (has_number s.entries) (sym s.named) ∙ has_from_among s.entry s.entries s.among

-- what is read of an entry that is there
pub copied_some : (o : Option (Bor Entry)) (e : Entry) → option_copied o ≡ Some e → IsSome o
copied_some None e h = cc
copied_some (Some b) e h = refl

pub copied_is : (o : Option (Bor Entry)) (b : Bor Entry) (e : Entry) → option_copied o ≡ Some e → o ≡ Some b → b.now ≡ e
copied_is None b e h k = cc
copied_is (Some a) b e h k = same a b e k h
  where
    same : (a b : Bor Entry) (e : Entry) → Some a ≡ Some b → Some a.now ≡ Some e → b.now ≡ e
    same a b e k h = cc

module _ (t : Table) (v : IsValid t) where
  leaf_only : (p : Place) (n : Node) → node p.level p.body ≡ n → (e : Entry) → Among e (entries_of_node n) → n ≡ Leaf (entries_of_node n)
  leaf_only p (Leaf es) is e i = refl
  leaf_only p (Inner cs) is e i = absurd i

  pub seat : (q leaf : ℕ) → IsLeafOf t q leaf → Seat t q leaf
  seat q leaf h =
      let n = node h.place.level h.place.body in
      let among : Among h.entry (entries_of t) = subst (Among h.entry) (own_all t v) (among_flat_map own h.entry h.place (places_of t) h.among h.has) in
      record {
        entry = h.entry;
        entries = entries_of_node (node h.place.level h.place.body);
        is = ap (look t.nodes) (sym h.named) ∙ place_stands t v h.place h.among ∙ ap (λ (m : Node). Some m) (leaf_only h.place n refl h.entry h.has);
        among = h.has;
        named = h.is;
        found = ap (entry_of t.nodes) (sym h.is) ∙ entry_of_among t v h.entry among;
      }

  module _ (rising : IsAscending t.nodes) (numbers_free : t.next < 2 ^ 63 + 2 ^ 32) where
    few_levels : level_of t ≤ 65
    few_levels = (level_low t.shape v.shape (level_of t) t.root (body_at (look t.nodes) (level_of t) t.root) t.next v.sound (root_spot t v numbers_free).some (own_distinct t v rising) (own_low t v rising) (omega arith)).1

    -- **the leaf of an entry is found from the root**
    pub found : (q leaf : ℕ) → (s : Seat t q leaf) → IsNotBelow (look t.nodes) s.entry.rect 65 t.root leaf → ⊥
    found q leaf s none =
        none (level_of t) few_levels (reach t.shape (look t.nodes) leaf s.entries s.is s.entry s.among (level_of t) t.root v.stands v.sound (sym (own_look t v rising leaf) ∙ ap is_some s.is)).below
