-- The way up from the leaf that an entry leaves.
use Rattle.std.proofs.Common.{◌≡◌, ℕ, zero, suc, ◌+◌, ◌^◌, ◌<◌, ◌≤◌, inl, inr, Bool, true, false, ◌||◌, List, [], ◌∷◌, ◌++◌, length, map, take, drop, get_or, slice_get, Option, Some, refl, sym, ap, ap₂, ◌∙◌, subst, arith}
use Rattle.std.specs.Prelude.{nat_eq, ltb, cond}
use Rattle.std.specs.List.{AllByRecursion, IsDistinct, flat_map, sum_by}
use Rattle.std.proofs.lemmas.List.{length-map, map-append}
use Rattle.std.proofs.lemmas.List.Folds.{flat_map-map}
use Rattle.std.proofs.lemmas.Grind.{flat_map-append}
use Rattle.std.proofs.lemmas.List.Sums.{sum_by-append, sum_by-cons}
use Rattle.std.proofs.lemmas.Map.Keys.{IsDistinct-head}
use Rattle.sp_rect.specs.Plane.{Rectangle}
use Rattle.sp_rect.specs.Inside.{bound_of}
use Rattle.sp_node.specs.declared.node.Entry.{Entry}
use Rattle.sp_node.specs.declared.node.Child.{Child}
use Rattle.sp_node.specs.declared.node.Node.{Node}
use Rattle.sp_node.specs.declared.node.Node.TheVariants.{Leaf, Inner}
use Rattle.sp_node.specs.declared.plan.Part.{Part}
use Rattle.sp_node.specs.declared.plan.Part.TheVariants.{Now, Gone}
use Rattle.sp_node.specs.Nested.{Body, Branch, rects, rect_of}
use Rattle.sp_node.specs.Look.{look, entries_in}
use Rattle.sp_node.specs.Plan.{number_of, content, put_part, AreOrdered}
use Rattle.sp_node.specs.Table.{Table, body_at, Stands, IsLeaf, IsInner, children_in}
use Rattle.sp_node.proofs.Lists.{all_imply, all_append}
use Rattle.sp_node.proofs.Frame.{all_from_flat_map}
use Rattle.sp_node.proofs.Adopt.{listed, ordered_put}
use Rattle.sp_split.specs.Split.{is_among}
use Rattle.sp_split.proofs.Members.{self_equal, or_left, or_true, all_none}
use Rattle.sp_grow.specs.declared.member.Member.TheVariants.{Entry as EntryOf, Child as ChildOf}
use Rattle.sp_grow.specs.Members.{rects_in}
use Rattle.sp_grow.specs.Below.{numbers, numbers_in, IsSpot, branch_at, no_child}
use Rattle.sp_grow.proofs.Numbers.{AreKept, among_from_all, all_front, all_back}
use Rattle.sp_grow.proofs.Parts.{all_put, off_parts}
use Rattle.sp_grow.proofs.Steps.{in_front, in_middle, in_back, front_apart, back_apart, kept_branches, kept_stands}
use Rattle.sp_split.proofs.Flags.{same_default}
use Rattle.sp_grow.proofs.Descent.{parted}
use Rattle.sp_grow.proofs.Spots.{child_spot}
use Rattle.sp_grow.proofs.Sums.{sum_flat_map}
use Rattle.sp_condense.specs.declared.orphans.Orphan.{Orphan as Found}
use Rattle.sp_condense.specs.declared.rest.Rest.{Rest}
use Rattle.sp_condense.specs.Removal.{Orphan, orphan, orphans_of}
use Rattle.sp_condense.specs.Taking.{size_of, members_in, IsHere, IsAbove, under, Follows, Reads, AreFound, orphan_numbers, IsTaken}

-- a list at a member of it
pub at_member : {X : Type 0} (xs : List X) (i : ℕ) (x : X) → slice_get xs i ≡ Some x → xs ≡ take i xs ++ x ∷ drop (i + 1) xs
at_member xs i x e = let s : suc i ≡ i + 1 = omega arith in here xs i x e ∙ ap (λ (n : ℕ). take i xs ++ x ∷ drop n xs) s
  where
    here : {X : Type 0} (xs : List X) (i : ℕ) (x : X) → slice_get xs i ≡ Some x → xs ≡ take i xs ++ x ∷ drop (suc i) xs
    here [] i x e = cc
    here (y ∷ ys) zero x e = let s : y ≡ x = cc in ap (λ z. z ∷ ys) s
    here (y ∷ ys) (suc i) x e = ap (λ zs. y ∷ zs) (here ys i x e)

-- the parts of a list to which one was put
module _ (P : Part → Type 0) where
  pub unput : (ps : List Part) (p : Part) → AllByRecursion P (put_part ps p) → AllByRecursion P ps × P p
  unput [] p h = (tt, h.0)
  unput (x ∷ ps) p h = by_test (ltb (number_of x) (number_of p)) (unput ps p) h
    where
      by_test : (b : Bool) → (AllByRecursion P (put_part ps p) → AllByRecursion P ps × P p) → AllByRecursion P (cond b (x ∷ put_part ps p) (p ∷ x ∷ ps)) → AllByRecursion P (x ∷ ps) × P p
      by_test true more h = let r = more h.1 in ((h.0, r.0), r.1)
      by_test false more h = (h.1, h.0)

pub numbers_under : (level number : ℕ) (body : Body level) → numbers level number body ≡ number ∷ under level body
numbers_under zero number body = refl
numbers_under (suc level) number body = refl

-- a node as it reads
pub body_read : (at : ℕ → Option Node) (n level : ℕ) (node : Node) (left : Body level) → at n ≡ Some node → Reads at level node left → body_at at level n ≡ left
body_read at n zero (Leaf es) left is r = ap entries_in is ∙ r
body_read at n zero (Inner cs) left is r = absurd r
body_read at n (suc level) (Leaf es) left is r = absurd r
body_read at n (suc level) (Inner cs) left is r = ap (λ (m : Option Node). map (branch_at at level) (children_in m)) is ∙ r.0

pub stands_read : (at : ℕ → Option Node) (n level : ℕ) (node : Node) (left : Body level) → at n ≡ Some node → Reads at level node left → Stands at level n
stands_read at n zero (Leaf es) left is r = subst IsLeaf (sym is) tt
stands_read at n zero (Inner cs) left is r = absurd r
stands_read at n (suc level) (Leaf es) left is r = absurd r
stands_read at n (suc level) (Inner cs) left is r = (subst IsInner (sym is) tt, subst (λ (m : Option Node). AllByRecursion (λ c. Stands at level c.node) (children_in m)) (sym is) r.1)

-- the orphans of a dropped node
module _ (at : ℕ → Option Node) where
  found_append : (top : ℕ) (fs gs : List Found) (os qs : List Orphan) → AreFound at top fs os → AreFound at top gs qs → AreFound at top (fs ++ gs) (os ++ qs)
  found_append top [] gs [] qs h k = k
  found_append top [] gs (o ∷ os) qs h k = absurd h
  found_append top (f ∷ fs) gs [] qs h k = absurd h
  found_append top (f ∷ fs) gs (o ∷ os) qs h k = (h.0, h.1, found_append top fs gs os qs h.2 k)

  found_entries : (depth : ℕ) (es : List Entry) → AreFound at (depth + 0) (map (λ e. record { depth = depth; member = EntryOf e }) es) (orphans_of 0 es)
  found_entries depth [] = tt
  found_entries depth (e ∷ es) = (refl, refl, found_entries depth es)

  found_children : (depth level : ℕ) (cs : List Child) → AllByRecursion (λ c. Stands at level c.node) cs → AreFound at (depth + suc level) (map (λ c. record { depth = depth; member = ChildOf c }) cs) (orphans_of (suc level) (map (branch_at at level) cs))
  found_children depth level [] s = tt
  found_children depth level (c ∷ cs) s = (refl, (refl, s.0), found_children depth level cs s.1)

  found_members : (depth level : ℕ) (node : Node) (left : Body level) → Reads at level node left → AreFound at (depth + level) (members_in depth node) (orphans_of level left)
  found_members depth zero (Leaf es) left r = subst (λ (b : Body 0). AreFound at (depth + 0) (members_in depth (Leaf es)) (orphans_of 0 b)) r (found_entries depth es)
  found_members depth zero (Inner cs) left r = absurd r
  found_members depth (suc level) (Leaf es) left r = absurd r
  found_members depth (suc level) (Inner cs) left r = subst (λ (b : Body (suc level)). AreFound at (depth + suc level) (members_in depth (Inner cs)) (orphans_of (suc level) b)) r.0 (found_children depth level cs r.1)

no_numbers : (f : ℕ → ℕ) (es : List Entry) → sum_by f (orphan_numbers (orphans_of 0 es)) ≡ 0
no_numbers f [] = refl
no_numbers f (e ∷ es) = no_numbers f es

pub numbers_of_orphans : (f : ℕ → ℕ) (level : ℕ) (left : Body level) → sum_by f (orphan_numbers (orphans_of level left)) ≡ sum_by f (under level left)
numbers_of_orphans f zero es = no_numbers f es
numbers_of_orphans f (suc level) branches = ap (sum_by f) (flat_map-map (λ (o : Orphan). numbers_in o.level o.member) (orphan (suc level)) branches)

size_rects : (n : Node) → size_of n ≡ length (rects_in n)
size_rects (Leaf es) = sym (length-map es (λ (e : Entry). e.rect))
size_rects (Inner cs) = sym (length-map cs (λ (c : Child). c.rect))

-- **at the leaf**
pub taken_leaf : (t : Table) (number at depth : ℕ) (es items : List Entry) → look t.nodes at ≡ Some (Leaf es) → (i : ℕ) → IsHere es number i → items ≡ take i es ++ drop (i + 1) es → (rest : Rest) → rest.node ≡ Leaf items → rest.parts ≡ [] → rest.orphans.items ≡ [] → (level : ℕ) → IsSpot t level at → IsTaken t number level at depth rest
taken_leaf t number at depth es items is i here left rest node parts orphans (suc level) spot = absurd (subst IsInner is spot.stands.0)
taken_leaf t number at depth es items is i here left rest node parts orphans zero spot = record {
  entry = here.0;
  named = here.2;
  left = items;
  orphans = [];
  removes = (take i es, drop (i + 1) es, ap entries_in is ∙ at_member es i here.0 here.1, left, refl);
  same_rects = ap rects_in node;
  gone = [];
  sums = λ f. refl;
  owned = subst (AllByRecursion (λ p. false ≡ true)) (sym parts) tt;
  ordered = subst AreOrdered (sym parts) tt;
  reads = λ after f. subst (λ (n : Node). Reads after 0 n items) (sym node) refl;
  found = λ after f. subst (λ (fs : List Found). AreFound after (depth + 0) fs []) (sym orphans) tt;
  dropped = λ after f. tt;
}

-- **at a node above the child below which the entry was taken out**
module _ (t : Table) (number level at : ℕ) (front : List Child) (c : Child) (back : List Child) (is : look t.nodes at ≡ Some (Inner (front ++ c ∷ back))) (spot : IsSpot t (suc level) at) (depth : ℕ) (below : Rest) (b : IsTaken t number level c.node (depth + 1) below) where
  abbrev before : ℕ → Option Node
  before = look t.nodes

  abbrev body : Body level
  body = body_at before level c.node

  abbrev each : Child → List ℕ
  each d = numbers level d.node (body_at before level d.node)

  abbrev all : List ℕ
  all = flat_map each front ++ (each c ++ flat_map each back)

  abbrev below_here : List ℕ
  below_here = under (suc level) (body_at before (suc level) at)

  all_is : below_here ≡ all
  all_is =
      flat_map-map (λ (x : Branch (Body level)). numbers level x.number x.body) (branch_at before level) (children_in (before at)) ∙ ap (λ (n : Option Node). flat_map each (children_in n)) is ∙ flat_map-append each front (c ∷ back)

  among_here : (k : ℕ) → is_among all k ≡ true → is_among below_here k ≡ true
  among_here k h = ap (λ (ns : List ℕ). is_among ns k) all_is ∙ h

  -- the child's number and those below it
  in_each : (k : ℕ) → is_among (under level body) k ≡ true → is_among (each c) k ≡ true
  in_each k h = ap (λ (ns : List ℕ). is_among ns k) (numbers_under level c.node body) ∙ ap (λ (x : Bool). nat_eq k c.node || x) h ∙ or_true (nat_eq k c.node)

  own_in_each : is_among (each c) c.node ≡ true
  own_in_each = ap (λ (ns : List ℕ). is_among ns c.node) (numbers_under level c.node body) ∙ or_left (nat_eq c.node c.node) (is_among (under level body) c.node) (self_equal c.node)

  own_apart : is_among (under level body) c.node ≡ false
  own_apart = all_none (under level body) c.node (IsDistinct-head nat_eq c.node (under level body) (subst (IsDistinct nat_eq) (numbers_under level c.node body) (child_spot t level at front c back is spot).distinct))

  not_own : (k : ℕ) → is_among (under level body) k ≡ true → c.node ≡ k → ⊥
  not_own k h e = let no_more = ap (is_among (under level body)) (sym e) ∙ own_apart in clash (is_among (under level body) k) h no_more
    where
      clash : (x : Bool) → x ≡ true → x ≡ false → ⊥
      clash x y z = cc

  abbrev Apart : ℕ → Part → Type 0
  Apart k p = ¬ (number_of p ≡ k)

  owned_apart : (k : ℕ) → is_among (under level body) k ≡ false → AllByRecursion (Apart k) below.parts
  owned_apart k h = all_imply (λ p o e. clash (is_among (under level body) k) (ap (is_among (under level body)) (sym e) ∙ o) h) below.parts b.owned
    where
      clash : (x : Bool) → x ≡ true → x ≡ false → ⊥
      clash x y z = cc

  module _ (p : Part) (named : number_of p ≡ c.node) where
    apart_parts : (k : ℕ) → is_among (each c) k ≡ false → AllByRecursion (Apart k) (put_part below.parts p)
    apart_parts k h = all_put (Apart k) below.parts p (owned_apart k (off (is_among (under level body) k) refl)) (λ e. clash (is_among (each c) k) (ap (is_among (each c)) (sym (sym named ∙ e)) ∙ own_in_each) h)
      where
        clash : (x : Bool) → x ≡ true → x ≡ false → ⊥
        clash x y z = cc

        off : (x : Bool) → is_among (under level body) k ≡ x → is_among (under level body) k ≡ false
        off true e = absurd (clash (is_among (each c) k) (in_each k e) h)
        off false e = e

    module _ (after : ℕ → Option Node) (f : Follows before after below_here (put_part below.parts p)) where
      here : after c.node ≡ content p
      here = subst (λ (k : ℕ). after k ≡ content p) named (unput (λ q. after (number_of q) ≡ content q) below.parts p f.said).1

      sub : Follows before after (under level body) below.parts
      sub = record {
        said = (unput (λ q. after (number_of q) ≡ content q) below.parts p f.said).0;
        kept = λ k h l. f.kept k (among_here k (in_middle t level at front c back is spot k (in_each k h))) (all_put (Apart k) below.parts p l (λ e. not_own k h (sym named ∙ e)));
      }

      front_kept : AllByRecursion (λ d. AreKept before after (each d)) front
      front_kept = all_from_flat_map (λ k. after k ≡ before k) each front (among_from_all (λ k. after k ≡ before k) (flat_map each front) (λ k h. f.kept k (among_here k (in_front t level at front c back is spot k h)) (apart_parts k (front_apart t level at front c back is spot k h))))

      back_kept : AllByRecursion (λ d. AreKept before after (each d)) back
      back_kept = all_from_flat_map (λ k. after k ≡ before k) each back (among_from_all (λ k. after k ≡ before k) (flat_map each back) (λ k h. f.kept k (among_here k (in_back t level at front c back is spot k h)) (apart_parts k (back_off k h (is_among (each c) k) refl))))
        where
          back_off : (k : ℕ) → is_among (flat_map each back) k ≡ true → (x : Bool) → is_among (each c) k ≡ x → is_among (each c) k ≡ false
          back_off k h x e = e ∙ back_apart t level at front c back is spot k h x e

      children_stood : AllByRecursion (λ d. Stands before level d.node) (front ++ c ∷ back)
      children_stood = subst (λ (n : Option Node). AllByRecursion (λ d. Stands before level d.node) (children_in n)) is spot.stands.1

      fronts : map (branch_at after level) front ≡ map (branch_at before level) front
      fronts = kept_branches t after level front front_kept

      backs : map (branch_at after level) back ≡ map (branch_at before level) back
      backs = kept_branches t after level back back_kept

      fronts_stand : AllByRecursion (λ d. Stands after level d.node) front
      fronts_stand = kept_stands t after level front front_kept (all_front (λ d. Stands before level d.node) front (c ∷ back) children_stood)

      backs_stand : AllByRecursion (λ d. Stands after level d.node) back
      backs_stand = kept_stands t after level back back_kept (all_back (λ d. Stands before level d.node) front (c ∷ back) children_stood).1

  abbrev fs : List (Branch (Body level))
  fs = map (branch_at before level) front

  abbrev bs : List (Branch (Body level))
  bs = map (branch_at before level) back

  split_body : body_at before (suc level) at ≡ fs ++ branch_at before level c ∷ bs
  split_body = ap (λ (n : Option Node). map (branch_at before level) (children_in n)) is ∙ map-append (branch_at before level) front (c ∷ back)

  child_rects : (ds : List Child) → rects (suc level) (map (branch_at before level) ds) ≡ map (λ d. d.rect) ds
  child_rects [] = refl
  child_rects (d ∷ ds) = ap (λ (rs : List Rectangle). d.rect ∷ rs) (child_rects ds)

  off_listed : listed below.parts c.node ≡ false
  off_listed = off_parts (λ k. is_among (under level body) k ≡ true) below.parts c.node b.owned (λ h. clash (is_among (under level body) c.node) h own_apart)
    where
      clash : (x : Bool) → x ≡ true → x ≡ false → ⊥
      clash x y z = cc

  owned_here : (p : Part) → number_of p ≡ c.node → AllByRecursion (λ q. is_among below_here (number_of q) ≡ true) (put_part below.parts p)
  owned_here p named =
      all_put (λ q. is_among below_here (number_of q) ≡ true) below.parts p (all_imply (λ q o. among_here (number_of q) (in_middle t level at front c back is spot (number_of q) (in_each (number_of q) o))) below.parts b.owned)
      (subst (λ (k : ℕ). is_among below_here k ≡ true) (sym named) (among_here c.node (in_middle t level at front c back is spot c.node own_in_each)))

  ordered_here : (p : Part) → number_of p ≡ c.node → AreOrdered (put_part below.parts p)
  ordered_here p named = ordered_put below.parts p b.ordered (ap (listed below.parts) named ∙ off_listed)

  module _ (f : ℕ → ℕ) where
    abbrev total : List (Branch (Body level)) → ℕ
    total xs = sum_by (λ (x : Branch (Body level)). sum_by f (numbers level x.number x.body)) xs

    total_is : (xs : List (Branch (Body level))) → sum_by f (under (suc level) xs) ≡ total xs
    total_is xs = sum_flat_map f (λ (x : Branch (Body level)). numbers level x.number x.body) xs

    before_is : sum_by f below_here ≡ total fs + (f c.node + sum_by f (under level body)) + total bs
    before_is =
        omega (
          arith,
          ap (λ (m : Body (suc level)). sum_by f (under (suc level) m)) split_body,
          total_is (fs ++ branch_at before level c ∷ bs),
          sum_by-append (λ (x : Branch (Body level)). sum_by f (numbers level x.number x.body)) fs (branch_at before level c ∷ bs),
          sum_by-cons (λ (x : Branch (Body level)). sum_by f (numbers level x.number x.body)) (branch_at before level c) bs,
          ap (sum_by f) (numbers_under level c.node body),
          sum_by-cons f c.node (under level body),
        )

  deeper : (depth + 1) + level ≡ depth + suc level
  deeper = omega arith

  -- it keeps its place
  module _ (rest : Rest) (rect : Rectangle) (enough : t.shape.min ≤ size_of below.node) (bounds : bound_of (rects_in below.node) ≡ Some rect) (node : rest.node ≡ Inner (front ++ record { rect = rect; node = c.node } ∷ back)) (parts : rest.parts ≡ put_part below.parts (Now c.node below.node)) (orphans : rest.orphans.items ≡ below.orphans.items) where
    abbrev kept : Child
    kept = record { rect = rect; node = c.node }

    abbrev tight : Branch (Body level)
    tight = record { rect = rect; number = c.node; body = b.left }

    abbrev after_kept : Body (suc level)
    after_kept = fs ++ tight ∷ bs

    kept_read : (after : ℕ → Option Node) → Follows before after below_here (put_part below.parts (Now c.node below.node)) → Reads after (suc level) (Inner (front ++ kept ∷ back)) after_kept
    kept_read after f =
        let s = sub (Now c.node below.node) refl after f in
        let r = b.reads after s in
        let h = here (Now c.node below.node) refl after f in
        let own : branch_at after level kept ≡ tight = ap (λ (m : Body level). record { rect = rect; number = c.node; body = m }) (body_read after c.node level below.node b.left h r) in (
          map-append (branch_at after level) front (kept ∷ back) ∙ ap₂ (λ (xs ys : List (Branch (Body level))). xs ++ ys) (fronts (Now c.node below.node) refl after f) (ap₂ (λ (x : Branch (Body level)) (ys : List (Branch (Body level))). x ∷ ys) own (backs (Now c.node below.node) refl after f)),
          all_append (λ d. Stands after level d.node) front (kept ∷ back) (fronts_stand (Now c.node below.node) refl after f) (stands_read after c.node level below.node b.left h r, backs_stand (Now c.node below.node) refl after f),
        )

    kept_rects : rects_in (Inner (front ++ kept ∷ back)) ≡ rects (suc level) after_kept
    kept_rects =
        map-append (λ (d : Child). d.rect) front (kept ∷ back) ∙ ap₂ (λ (xs ys : List Rectangle). xs ++ rect ∷ ys) (sym (child_rects front)) (sym (child_rects back)) ∙ sym (map-append (rect_of (suc level)) fs (tight ∷ bs))

    kept_sums : (f : ℕ → ℕ) → sum_by f (under (suc level) after_kept) + sum_by f (orphan_numbers b.orphans) + sum_by f b.gone ≡ sum_by f below_here
    kept_sums f =
        omega (
          arith,
          before_is f,
          total_is f after_kept,
          sum_by-append (λ (x : Branch (Body level)). sum_by f (numbers level x.number x.body)) fs (tight ∷ bs),
          sum_by-cons (λ (x : Branch (Body level)). sum_by f (numbers level x.number x.body)) tight bs,
          ap (sum_by f) (numbers_under level c.node b.left),
          sum_by-cons f c.node (under level b.left),
          b.sums f,
        )

    pub taken_kept : IsTaken t number (suc level) at depth rest
    taken_kept = record {
      entry = b.entry;
      named = b.named;
      left = after_kept;
      orphans = b.orphans;
      removes = (
        fs,
        branch_at before level c,
        bs,
        b.left,
        b.orphans,
        split_body,
        b.removes,
        inl (
          omega (arith, size_rects below.node, ap (λ (rs : List Rectangle). length rs) b.same_rects, length-map b.left (rect_of level)),
          (tight, record { named = refl; has = refl; bounds = ap bound_of (sym b.same_rects) ∙ bounds }, refl),
          refl,
        ),
      );
      same_rects = ap rects_in node ∙ kept_rects;
      gone = b.gone;
      sums = kept_sums;
      owned = subst (AllByRecursion (λ q. is_among below_here (number_of q) ≡ true)) (sym parts) (owned_here (Now c.node below.node) refl);
      ordered = subst AreOrdered (sym parts) (ordered_here (Now c.node below.node) refl);
      reads = λ after f. subst (λ (n : Node). Reads after (suc level) n after_kept) (sym node) (kept_read after (subst (Follows before after below_here) parts f));
      found = λ after f. subst (λ (gs : List Found). AreFound after (depth + suc level) gs b.orphans) (sym orphans) (subst (λ (top : ℕ). AreFound after top below.orphans.items b.orphans) deeper (b.found after (sub (Now c.node below.node) refl after (subst (Follows before after below_here) parts f))));
      dropped = λ after f. b.dropped after (sub (Now c.node below.node) refl after (subst (Follows before after below_here) parts f));
    }

  -- it is dropped
  module _ (rest : Rest) (few : size_of below.node < t.shape.min) (node : rest.node ≡ Inner (front ++ back)) (parts : rest.parts ≡ put_part below.parts (Gone c.node)) (orphans : rest.orphans.items ≡ members_in (depth + 1) below.node ++ below.orphans.items) where
    abbrev after_dropped : Body (suc level)
    after_dropped = fs ++ bs

    dropped_read : (after : ℕ → Option Node) → Follows before after below_here (put_part below.parts (Gone c.node)) → Reads after (suc level) (Inner (front ++ back)) after_dropped
    dropped_read after f = (
      map-append (branch_at after level) front back ∙ ap₂ (λ (xs ys : List (Branch (Body level))). xs ++ ys) (fronts (Gone c.node) refl after f) (backs (Gone c.node) refl after f),
      all_append (λ d. Stands after level d.node) front back (fronts_stand (Gone c.node) refl after f) (backs_stand (Gone c.node) refl after f),
    )

    dropped_rects : rects_in (Inner (front ++ back)) ≡ rects (suc level) after_dropped
    dropped_rects = map-append (λ (d : Child). d.rect) front back ∙ ap₂ (λ (xs ys : List Rectangle). xs ++ ys) (sym (child_rects front)) (sym (child_rects back)) ∙ sym (map-append (rect_of (suc level)) fs bs)

    dropped_sums : (f : ℕ → ℕ) → sum_by f (under (suc level) after_dropped) + sum_by f (orphan_numbers (orphans_of level b.left ++ b.orphans)) + sum_by f (c.node ∷ b.gone) ≡ sum_by f below_here
    dropped_sums f =
        omega (
          arith,
          before_is f,
          total_is f after_dropped,
          sum_by-append (λ (x : Branch (Body level)). sum_by f (numbers level x.number x.body)) fs bs,
          ap (sum_by f) (flat_map-append (λ (o : Orphan). numbers_in o.level o.member) (orphans_of level b.left) b.orphans),
          sum_by-append f (orphan_numbers (orphans_of level b.left)) (orphan_numbers b.orphans),
          numbers_of_orphans f level b.left,
          sum_by-cons f c.node b.gone,
          b.sums f,
        )

    pub taken_dropped : IsTaken t number (suc level) at depth rest
    taken_dropped = record {
      entry = b.entry;
      named = b.named;
      left = after_dropped;
      orphans = orphans_of level b.left ++ b.orphans;
      removes = (
        fs,
        branch_at before level c,
        bs,
        b.left,
        b.orphans,
        split_body,
        b.removes,
        inr (
          omega (arith, size_rects below.node, ap (λ (rs : List Rectangle). length rs) b.same_rects, length-map b.left (rect_of level)),
          refl,
          refl,
        ),
      );
      same_rects = ap rects_in node ∙ dropped_rects;
      gone = c.node ∷ b.gone;
      sums = dropped_sums;
      owned = subst (AllByRecursion (λ q. is_among below_here (number_of q) ≡ true)) (sym parts) (owned_here (Gone c.node) refl);
      ordered = subst AreOrdered (sym parts) (ordered_here (Gone c.node) refl);
      reads = λ after f. subst (λ (n : Node). Reads after (suc level) n after_dropped) (sym node) (dropped_read after (subst (Follows before after below_here) parts f));
      found = λ after f.
          let g = subst (Follows before after below_here) parts f in
          let s = sub (Gone c.node) refl after g in
          subst (λ (gs : List Found). AreFound after (depth + suc level) gs (orphans_of level b.left ++ b.orphans)) (sym orphans)
          (subst (λ (top : ℕ). AreFound after top (members_in (depth + 1) below.node ++ below.orphans.items) (orphans_of level b.left ++ b.orphans)) deeper
          (found_append after ((depth + 1) + level) (members_in (depth + 1) below.node) below.orphans.items (orphans_of level b.left) b.orphans (found_members after (depth + 1) level below.node b.left (b.reads after s)) (b.found after s)));
      dropped = λ after f.
          let g = subst (Follows before after below_here) parts f in
          (here (Gone c.node) refl after g, b.dropped after (sub (Gone c.node) refl after g));
    }

-- **a node of a table**
module _ (t : Table) (number at depth : ℕ) (cs : List Child) (is : look t.nodes at ≡ Some (Inner cs)) (i : ℕ) (lt : i < length cs) (deep : ℕ) (deeper : depth + 1 < 2 ^ 63 → deep ≡ depth + 1) where
  is_parted : look t.nodes at ≡ Some (Inner (take i cs ++ get_or cs i no_child ∷ drop (i + 1) cs))
  is_parted = is ∙ ap (λ (ds : List Child). Some (Inner ds)) (parted cs i no_child lt)

  abbrev Comes : Child → Rest → Type 0
  Comes c below = (level : ℕ) → IsSpot t level c.node → deep + level < 2 ^ 63 → IsTaken t number level c.node deep below

  pub taken_inner : (d : Child) (below rest : Rest) → Comes (get_or cs i d) below → IsAbove t.shape.min cs i (get_or cs i no_child) deep below rest → (level : ℕ) → IsSpot t level at → depth + level < 2 ^ 63 → IsTaken t number level at depth rest
  taken_inner d below rest comes a zero spot h = absurd (subst IsLeaf is spot.stands)
  taken_inner d below rest comes a (suc level) spot h =
      let e : deep ≡ depth + 1 = deeper (omega arith) in
      let c = subst (λ (x : Child). Comes x below) (same_default cs i d no_child lt) comes in
      let front = take i cs in
      let back = drop (i + 1) cs in
      let low = child_spot t level at front (get_or cs i no_child) back is_parted spot in
      by_case spot (subst (λ (n : ℕ). IsTaken t number level (get_or cs i no_child).node n below) e (c level low (omega arith))) (subst (λ (n : ℕ). IsAbove t.shape.min cs i (get_or cs i no_child) n below rest) e a)
    where
      by_case : IsSpot t (suc level) at → IsTaken t number level (get_or cs i no_child).node (depth + 1) below → IsAbove t.shape.min cs i (get_or cs i no_child) (depth + 1) below rest → IsTaken t number (suc level) at depth rest
      by_case s b (inl k) = taken_kept t number level at (take i cs) (get_or cs i no_child) (drop (i + 1) cs) is_parted s depth below b rest k.1.0 k.0 k.1.1 k.1.2 k.1.3 k.1.4
      by_case s b (inr k) = taken_dropped t number level at (take i cs) (get_or cs i no_child) (drop (i + 1) cs) is_parted s depth below b rest k.0 k.1.0 k.1.1 k.1.2
