-- An insertion at a leaf, and at a node above a child below which it was made.
use Rattle.std.proofs.Common.{◌≡◌, ℕ, zero, suc, ◌+◌, ◌<◌, ◌≤◌, ◌⊎◌, inl, inr, Bool, true, false, ◌||◌, List, [], ◌∷◌, ◌++◌, length, map, Option, Some, refl, sym, ap, ap₂, ◌∙◌, subst, arith}
use Rattle.std.specs.Prelude.{nat_eq}
use Rattle.std.specs.List.{AllByRecursion, flat_map, IsDistinct}
use Rattle.std.specs.List.Sorted.{IsPermutation}
use Rattle.std.proofs.lemmas.List.{length-append, length-map, map-append}
use Rattle.std.proofs.lemmas.List.Folds.{list_any-append, flat_map-map}
use Rattle.std.proofs.lemmas.List.Sums.{sum_by-append}
use Rattle.std.proofs.lemmas.List.Sorted.{list_any-IsPermutation}
use Rattle.std.proofs.lemmas.Grind.{flat_map-append}
use Rattle.std.proofs.lemmas.Map.Keys.{IsDistinct-head, IsDistinct-tail}
use Rattle.sp_rect.specs.Plane.{Rectangle}
use Rattle.sp_rect.specs.Inside.{bound_of}
use Rattle.sp_node.specs.declared.node.Entry.{Entry}
use Rattle.sp_node.specs.declared.node.Child.{Child}
use Rattle.sp_node.specs.declared.node.Node.{Node}
use Rattle.sp_node.specs.declared.node.Node.TheVariants.{Leaf, Inner}
use Rattle.sp_node.specs.declared.plan.Part.{Part}
use Rattle.sp_node.specs.Nested.{Member, Body, Branch, rects, rect_of}
use Rattle.sp_node.specs.Look.{look, entries_in}
use Rattle.sp_node.specs.Plan.{with_parts, number_of}
use Rattle.sp_node.specs.Table.{Table, body_at, Stands, IsLeaf, IsInner, children_in}
use Rattle.sp_node.proofs.Lists.{all_imply, all_append, all_both}
use Rattle.sp_node.proofs.Frame.{all_from_flat_map, map_same}
use Rattle.sp_node.proofs.Update.{distinct_apart, distinct_back, IsNone}
use Rattle.sp_node.proofs.Adopt.{listed}
use Rattle.sp_split.specs.Split.{is_among}
use Rattle.sp_split.proofs.Members.{among_all, all_none, self_equal, apart_from, or_left, or_true, permutation_from_sums}
use Rattle.sp_grow.specs.Members.{pick, rects_in, put_left}
use Rattle.sp_grow.specs.Chosen.{IsChosen}
use Rattle.sp_grow.specs.Insertion.{Outcome, one, with_outcome, Settles, Grows, here as here_of, below as below_of}
use Rattle.sp_grow.specs.Below.{numbers, numbers_in, IsSpot, AreChanges, IsGrownAt, IsSettled, IsStepped, branch_at, outcome_at, EachStands}
use Rattle.sp_grow.specs.declared.left.Left.{Left}
use Rattle.sp_grow.specs.declared.left.Left.TheVariants.{One, Two}
use Rattle.sp_grow.specs.declared.left.Draft.{Draft}
use Rattle.sp_grow.specs.declared.left.Step.{Step}
use Rattle.sp_grow.proofs.Numbers.{numbers_left, among_from_all, all_front, all_back, AreKept, stands_kept, branch_kept, outcome_kept, each_kept}
use Rattle.sp_grow.specs.Reached.{new_numbers}
use Rattle.sp_grow.proofs.Counting.{new_within, Counted, grows_numbers, all_pick}
use Rattle.sp_grow.proofs.Divides.{size}
use Rattle.sp_grow.proofs.Parts.{off_parts, look_unlisted}
use Rattle.sp_grow.proofs.Settled.{map-pick, settled_changes, settled_few, settled_next, look_rest, settles_at, stands_at}

some_is : {X : Type 0} (a b : X) → Some a ≡ Some b → a ≡ b
some_is a b e = cc

-- nothing is changed
pub no_changes : (t : Table) (ns : List ℕ) (draft : Draft) → draft.parts ≡ [] → draft.next ≡ t.next → AreChanges t ns draft
no_changes t ns draft e d = subst (AreChanges t ns) same (record { owned = tt; made = λ k low lt. absurd (omega arith); now = tt; ordered = tt; differs = tt; onward = omega arith })
  where
    same : record { parts = []; next = t.next } ≡ draft
    same = λ i. record { parts = sym e i; next = sym d i }

module _ (t : Table) where
  abbrev pub before : ℕ → Option Node
  before = look t.nodes

  abbrev pub then : Draft → ℕ → Option Node
  then d = look (with_parts t.nodes d.parts)

  -- **an entry at a leaf**
  pub grown_leaf : (e : Entry) (number : ℕ) (es : List Entry) (draft : Draft) (left : Left) (after : Draft) → draft.parts ≡ [] → draft.next ≡ t.next → before number ≡ Some (Leaf es) → IsSettled t.shape draft number (Leaf (es ++ e ∷ [])) left after → (level : ℕ) → IsSpot t level number → IsGrownAt t 0 e level number left after
  grown_leaf e number es draft left after none start is s (suc level) spot = absurd (subst IsInner is spot.stands.0)
  grown_leaf e number es draft left after none start is s zero spot =
      let n : Node = Leaf (es ++ e ∷ []) in
      let ns : List ℕ = number ∷ [] in
      let c = no_changes t ns draft none start in
      let own : is_among ns number ≡ true = or_left (nat_eq number number) false (self_equal number) in
      let off : listed draft.parts number ≡ false = ap (λ (ps : List Part). listed ps number) none in
      let settled = settles_at t ns spot.shape spot.below_next spot.fresh draft c number own off n 0 (es ++ e ∷ []) refl (then after) (λ k h. ap entries_in h) (λ k is h. ap entries_in h) left after refl s in
      let old_body : entries_in (before number) ≡ es = ap entries_in is in
      let at_start : Grows t.shape 0 e 0 number t.next es (outcome_at (then after) 0 left) after.next = here_of (subst (λ (k : ℕ). Settles t.shape 0 number k (es ++ e ∷ []) (outcome_at (then after) 0 left) after.next) start settled) in
      record {
        grows = subst (λ (xs : List Entry). Grows t.shape 0 e 0 number t.next xs (outcome_at (then after) 0 left) after.next) (sym old_body) at_start;
        stands = stands_at t ns spot.shape spot.below_next spot.fresh draft c number own off n 0 (es ++ e ∷ []) refl (then after) (λ k h. subst IsLeaf (sym h) tt) (λ k is h. subst IsLeaf (sym h) tt) left after refl s;
        changes = settled_changes t ns spot.shape spot.below_next spot.fresh draft c number own off n (λ h. longer (some_is (Leaf es) n (sym is ∙ h))) (λ m h. sizes m (some_is (Leaf es) m (sym is ∙ h))) left after s;
        few = let f = settled_few t ns spot.shape spot.below_next spot.fresh draft c number own off n left after s in omega (arith, f, ap (λ (ps : List Part). length ps) none);
        few_new = let f = settled_next t ns spot.shape spot.below_next spot.fresh draft c number own off n left after s in omega (arith, f, start);
      }
    where
      longer : Leaf es ≡ Leaf (es ++ e ∷ []) → ⊥
      longer h = let l = ap size h in omega (arith, l, length-map es (λ (x : Entry). x.rect), length-map (es ++ e ∷ []) (λ (x : Entry). x.rect), length-append es (e ∷ []))

      sizes : (m : Node) → Leaf es ≡ m → size (Leaf (es ++ e ∷ [])) ≤ size m + 1
      sizes m h = let l = ap size h in omega (arith, l, length-map es (λ (x : Entry). x.rect), length-map (es ++ e ∷ []) (λ (x : Entry). x.rect), length-append es (e ∷ []))

  -- what is under some numbers, then as before
  module _ (at : ℕ → Option Node) where
    pub kept_branches : (level : ℕ) (ds : List Child) → AllByRecursion (λ d. AreKept before at (numbers level d.node (body_at before level d.node))) ds → map (branch_at at level) ds ≡ map (branch_at before level) ds
    kept_branches level ds h = map_same (branch_at at level) (branch_at before level) ds (all_imply (λ d k. branch_kept before at level d k) ds h)

    pub kept_stands : (level : ℕ) (ds : List Child) → AllByRecursion (λ d. AreKept before at (numbers level d.node (body_at before level d.node))) ds → AllByRecursion (λ d. Stands before level d.node) ds → AllByRecursion (λ d. Stands at level d.node) ds
    kept_stands level ds h s = all_imply (λ d k. stands_kept before at level d.node k.0 k.1) ds (all_both _ _ ds h s)

  -- **a child at a node of the level above it**
  module _ (j : ℕ) (c : Child) (number : ℕ) (cs : List Child) (is : before number ≡ Some (Inner cs)) (spot : IsSpot t (suc j) number) (stood : Stands before j c.node) where
    abbrev added : Branch (Body j)
    added = branch_at before j c

    abbrev below_child : Child → List ℕ
    below_child d = numbers j d.node (body_at before j d.node)

    abbrev all_numbers : List ℕ
    all_numbers = numbers (suc j) number (body_at before (suc j) number)

    all_numbers_is : all_numbers ≡ number ∷ flat_map below_child cs
    all_numbers_is = ap (λ (ns : List ℕ). number ∷ ns) (flat_map-map (λ (b : Branch (Body j)). numbers j b.number b.body) (branch_at before j) (children_in (before number)) ∙ ap (λ (n : Option Node). flat_map below_child (children_in n)) is)

    module _ (free : (q : ℕ) → is_among (numbers_in (suc j) added) q ≡ true → (is_among all_numbers q ≡ false) × (q < t.next)) (draft : Draft) (left : Left) (after : Draft) (none : draft.parts ≡ []) (start : draft.next ≡ t.next) (s : IsSettled t.shape draft number (Inner (cs ++ c ∷ [])) left after) where
      abbrev with_child : List Child
      with_child = cs ++ c ∷ []

      abbrev filled : Node
      filled = Inner with_child

      own_there : is_among all_numbers number ≡ true
      own_there = or_left (nat_eq number number) _ (self_equal number)

      nothing_yet : AreChanges t all_numbers draft
      nothing_yet = no_changes t all_numbers draft none start

      unlisted_yet : listed draft.parts number ≡ false
      unlisted_yet = ap (λ (ps : List Part). listed ps number) none

      as_before : (q : ℕ) → (q ≡ number → ⊥) → q < t.next → then after q ≡ before q
      as_before q x lt =
          look_rest t all_numbers spot.shape spot.below_next spot.fresh draft nothing_yet number own_there unlisted_yet filled left after s q x (λ e. omega (arith, start))
          ∙ ap (λ (ps : List Part). look (with_parts t.nodes ps) q) none

      low_under : AllByRecursion (λ n. n < t.next) (number ∷ flat_map below_child cs)
      low_under = subst (AllByRecursion (λ n. n < t.next)) all_numbers_is spot.below_next

      under_apart : AllByRecursion (λ k. nat_eq number k ≡ false) (flat_map below_child cs)
      under_apart = IsDistinct-head nat_eq number (flat_map below_child cs) (subst (IsDistinct nat_eq) all_numbers_is spot.distinct)

      kept_under : AllByRecursion (λ d. AreKept before (then after) (below_child d)) cs
      kept_under = all_from_flat_map (λ k. then after k ≡ before k) below_child cs (all_imply (λ k h. as_before k (λ e. differ number k h.0 (sym e)) h.1) (flat_map below_child cs) (all_both (λ k. nat_eq number k ≡ false) (λ k. k < t.next) (flat_map below_child cs) under_apart low_under.1))
        where
          differ : (a b : ℕ) → nat_eq a b ≡ false → a ≡ b → ⊥
          differ a b e d = apart_from a b e d

      kept_child : AreKept before (then after) (below_child c)
      kept_child = among_from_all (λ k. then after k ≡ before k) (below_child c) (λ k h. let f = free k h in as_before k (λ e. never k e f.0) f.1)
        where
          never : (k : ℕ) → k ≡ number → is_among all_numbers k ≡ false → ⊥
          never k e off = let yes = ap (is_among all_numbers) e ∙ own_there in cc

      kept_items : AllByRecursion (λ d. AreKept before (then after) (below_child d)) with_child
      kept_items = all_append (λ d. AreKept before (then after) (below_child d)) cs (c ∷ []) kept_under (kept_child, tt)

      list_then : map (branch_at (then after) j) with_child ≡ map (branch_at before j) cs ++ added ∷ []
      list_then = kept_branches (then after) j with_child kept_items ∙ map-append (branch_at before j) cs (c ∷ [])

      stands_then_all : AllByRecursion (λ d. Stands (then after) j d.node) with_child
      stands_then_all = kept_stands (then after) j with_child kept_items (all_append (λ d. Stands before j d.node) cs (c ∷ []) (subst (λ (n : Option Node). AllByRecursion (λ d. Stands before j d.node) (children_in n)) is spot.stands.1) (stood, tt))

      abbrev members_then : Body (suc j)
      members_then = map (branch_at before j) cs ++ added ∷ []

      child_rects : (at : ℕ → Option Node) (ds : List Child) → rects (suc j) (map (branch_at at j) ds) ≡ map (λ d. d.rect) ds
      child_rects at [] = refl
      child_rects at (d ∷ ds) = ap (λ (rs : List Rectangle). d.rect ∷ rs) (child_rects at ds)

      same_rects : rects_in filled ≡ rects (suc j) members_then
      same_rects = sym (child_rects (then after) with_child) ∙ ap (λ (b : Body (suc j)). rects (suc j) b) list_then

      node_stands : (k : ℕ) (ds : List Child) → then after k ≡ Some (Inner ds) → AllByRecursion (λ d. Stands (then after) j d.node) ds → Stands (then after) (suc j) k
      node_stands k ds h st = (subst IsInner (sym h) tt, subst (λ (n : Option Node). AllByRecursion (λ d. Stands (then after) j d.node) (children_in n)) (sym h) st)

      settled_then : Settles t.shape (suc j) number draft.next members_then (outcome_at (then after) (suc j) left) after.next
      settled_then = settles_at t all_numbers spot.shape spot.below_next spot.fresh draft nothing_yet number own_there unlisted_yet filled (suc j) members_then same_rects (then after)
          (λ k h. ap (λ (m : Option Node). map (branch_at (then after) j) (children_in m)) h ∙ list_then)
          (λ k ps h. ap (λ (m : Option Node). map (branch_at (then after) j) (children_in m)) h ∙ map-pick (branch_at (then after) j) with_child ps ∙ ap (λ (b : Body (suc j)). pick b ps) list_then) left after refl s

      old_body : body_at before (suc j) number ≡ map (branch_at before j) cs
      old_body = ap (λ (n : Option Node). map (branch_at before j) (children_in n)) is

      grows_then : Grows t.shape (suc j) added (suc j) number t.next (body_at before (suc j) number) (outcome_at (then after) (suc j) left) after.next
      grows_then = subst (λ (b : Body (suc j)). Grows t.shape (suc j) added (suc j) number t.next b (outcome_at (then after) (suc j) left) after.next) (sym old_body)
          (here_of (subst (λ (k : ℕ). Settles t.shape (suc j) number k members_then (outcome_at (then after) (suc j) left) after.next) start settled_then))

      longer_list : Inner cs ≡ filled → ⊥
      longer_list h = let l = ap size h in omega (arith, l, length-map cs (λ (d : Child). d.rect), length-map with_child (λ (d : Child). d.rect), length-append cs (c ∷ []))

      sizes_then : (m : Node) → Inner cs ≡ m → size filled ≤ size m + 1
      sizes_then m h = let l = ap size h in omega (arith, l, length-map cs (λ (d : Child). d.rect), length-map with_child (λ (d : Child). d.rect), length-append cs (c ∷ []))

      pub grown_child : IsGrownAt t (suc j) added (suc j) number left after
      grown_child = record {
        grows = grows_then;
        stands = stands_at t all_numbers spot.shape spot.below_next spot.fresh draft nothing_yet number own_there unlisted_yet filled (suc j) members_then same_rects (then after) (λ k h. node_stands k with_child h stands_then_all)
            (λ k ps h. node_stands k (pick with_child ps) h (all_pick (λ d. Stands (then after) j d.node) with_child ps stands_then_all)) left after refl s;
        changes = settled_changes t all_numbers spot.shape spot.below_next spot.fresh draft nothing_yet number own_there unlisted_yet filled (λ h. longer_list (some_is (Inner cs) filled (sym is ∙ h))) (λ m h. sizes_then m (some_is (Inner cs) m (sym is ∙ h))) left after s;
        few = let f = settled_few t all_numbers spot.shape spot.below_next spot.fresh draft nothing_yet number own_there unlisted_yet filled left after s in omega (arith, f, ap (λ (ps : List Part). length ps) none);
        few_new = let f = settled_next t all_numbers spot.shape spot.below_next spot.fresh draft nothing_yet number own_there unlisted_yet filled left after s in omega (arith, f, start);
      }

  -- **a node above a child**
  module _ (level number : ℕ) (front : List Child) (c : Child) (back : List Child) (is : before number ≡ Some (Inner (front ++ c ∷ back))) (spot : IsSpot t (suc level) number) where
    abbrev pub under : Child → List ℕ
    under d = numbers level d.node (body_at before level d.node)

    abbrev own : List ℕ
    own = numbers (suc level) number (body_at before (suc level) number)

    own_is : own ≡ number ∷ (flat_map under front ++ (under c ++ flat_map under back))
    own_is =
        ap (λ (ns : List ℕ). number ∷ ns)
        (flat_map-map (λ (b : Branch (Body level)). numbers level b.number b.body) (branch_at before level) (children_in (before number)) ∙ ap (λ (n : Option Node). flat_map under (children_in n)) is ∙ flat_map-append under front (c ∷ back))

    pub all_own : AllByRecursion (λ n. n < t.next) (number ∷ (flat_map under front ++ (under c ++ flat_map under back)))
    all_own = subst (AllByRecursion (λ n. n < t.next)) own_is spot.below_next

    distinct_own : IsDistinct nat_eq (number ∷ (flat_map under front ++ (under c ++ flat_map under back)))
    distinct_own = subst (IsDistinct nat_eq) own_is spot.distinct

    pub number_low : number < t.next
    number_low = all_own.0

    number_apart : is_among (flat_map under front ++ (under c ++ flat_map under back)) number ≡ false
    number_apart = all_none (flat_map under front ++ (under c ++ flat_map under back)) number (IsDistinct-head nat_eq number (flat_map under front ++ (under c ++ flat_map under back)) distinct_own)

    pub rest_distinct : IsDistinct nat_eq (flat_map under front ++ (under c ++ flat_map under back))
    rest_distinct = IsDistinct-tail nat_eq number (flat_map under front ++ (under c ++ flat_map under back)) distinct_own

    -- where a number stands among them
    pub in_front : (k : ℕ) → is_among (flat_map under front) k ≡ true → is_among (flat_map under front ++ (under c ++ flat_map under back)) k ≡ true
    in_front k h = list_any-append (nat_eq k) (flat_map under front) (under c ++ flat_map under back) ∙ or_left (is_among (flat_map under front) k) (is_among (under c ++ flat_map under back) k) h

    pub in_middle : (k : ℕ) → is_among (under c) k ≡ true → is_among (flat_map under front ++ (under c ++ flat_map under back)) k ≡ true
    in_middle k h =
        list_any-append (nat_eq k) (flat_map under front) (under c ++ flat_map under back)
        ∙ ap (λ (b : Bool). is_among (flat_map under front) k || b) (list_any-append (nat_eq k) (under c) (flat_map under back) ∙ or_left (is_among (under c) k) (is_among (flat_map under back) k) h) ∙ or_true (is_among (flat_map under front) k)

    pub in_back : (k : ℕ) → is_among (flat_map under back) k ≡ true → is_among (flat_map under front ++ (under c ++ flat_map under back)) k ≡ true
    in_back k h =
        list_any-append (nat_eq k) (flat_map under front) (under c ++ flat_map under back)
        ∙ ap (λ (b : Bool). is_among (flat_map under front) k || b) (list_any-append (nat_eq k) (under c) (flat_map under back) ∙ ap (λ (b : Bool). is_among (under c) k || b) h ∙ or_true (is_among (under c) k)) ∙ or_true (is_among (flat_map under front) k)

    not_number : (k : ℕ) → is_among (flat_map under front ++ (under c ++ flat_map under back)) k ≡ true → k ≡ number → ⊥
    not_number k h same = let no_more = ap (is_among (flat_map under front ++ (under c ++ flat_map under back))) same ∙ number_apart in cc

    low_then : (k : ℕ) → is_among (flat_map under front ++ (under c ++ flat_map under back)) k ≡ true → k < t.next
    low_then k h = among_all (λ n. n < t.next) (flat_map under front ++ (under c ++ flat_map under back)) k all_own.1 h

    -- no number of a sibling stands below the child
    pub front_apart : (k : ℕ) → is_among (flat_map under front) k ≡ true → is_among (under c) k ≡ false
    front_apart k h =
        let apart = among_all (IsNone (under c ++ flat_map under back)) (flat_map under front) k (distinct_apart (flat_map under front) (under c ++ flat_map under back) rest_distinct) h in
        all_none (under c) k (all_front (λ n. nat_eq k n ≡ false) (under c) (flat_map under back) apart)

    pub back_apart : (k : ℕ) → is_among (flat_map under back) k ≡ true → (b : Bool) → is_among (under c) k ≡ b → b ≡ false
    back_apart k h true m =
        let apart = among_all (IsNone (flat_map under back)) (under c) k (distinct_apart (under c) (flat_map under back) (distinct_back (flat_map under front) (under c ++ flat_map under back) rest_distinct)) m in
        let never = all_none (flat_map under back) k apart in
        cc
    back_apart k h false m = refl

    pub own_all : (k : ℕ) → is_among (under c) k ≡ true → is_among own k ≡ true
    own_all k h = ap (λ (ns : List ℕ). is_among ns k) own_is ∙ ap (λ (b : Bool). nat_eq k number || b) (in_middle k h) ∙ or_true (nat_eq k number)

    pub number_own : is_among own number ≡ true
    number_own = ap (λ (ns : List ℕ). is_among ns number) own_is ∙ or_left (nat_eq number number) (is_among (flat_map under front ++ (under c ++ flat_map under back)) number) (self_equal number)

    -- the member that is inserted has numbers that do not stand there
    module _ (k : ℕ) (x : Member k) (free : (j : ℕ) → is_among (numbers_in k x) j ≡ true → (is_among own j ≡ false) × (j < t.next)) where
      module _ (left : Left) (draft : Draft) (g : IsGrownAt t k x level c.node left draft) where
        abbrev IsOwned : ℕ → Type 0
        IsOwned k = (is_among (under c) k ≡ true) ⊎ ((t.next ≤ k) × (k < draft.next))

        -- the parts so far are of the child's nodes and of new ones
        off : (k : ℕ) → is_among (under c) k ≡ false → k < t.next → listed draft.parts k ≡ false
        off k h lt = off_parts IsOwned draft.parts k g.changes.owned never
          where
            never : IsOwned k → ⊥
            never (inl m) = cc
            never (inr m) = omega (arith, m.0)

        kept : (k : ℕ) → is_among (under c) k ≡ false → k < t.next → then draft k ≡ before k
        kept k h lt = look_unlisted t.nodes draft.parts k (off k h lt)

        number_off : listed draft.parts number ≡ false
        number_off = off number (off_child (is_among (under c) number) refl) number_low
          where
            off_child : (b : Bool) → is_among (under c) number ≡ b → is_among (under c) number ≡ false
            off_child true h = let there = in_middle number h in let never = number_apart in cc
            off_child false h = h

        wider : AreChanges t own draft
        wider = record {
          owned = all_imply (λ p h. widen (number_of p) h) draft.parts g.changes.owned;
          made = g.changes.made;
          now = g.changes.now;
          ordered = g.changes.ordered;
          differs = g.changes.differs;
          onward = g.changes.onward;
        }
          where
            widen : (k : ℕ) → IsOwned k → (is_among own k ≡ true) ⊎ ((t.next ≤ k) × (k < draft.next))
            widen k (inl h) = inl (own_all k h)
            widen k (inr h) = inr h

        -- the numbers of what is left of the child
        counted : Counted t.next draft.next (under c ++ numbers_in k x) (numbers_left level (outcome_at (then draft) level left))
        counted = grows_numbers t.shape spot.shape k x level c.node t.next (body_at before level c.node) (outcome_at (then draft) level left) draft.next g.grows

        IsLeft : ℕ → Type 0
        IsLeft j = (is_among (under c) j ≡ true) ⊎ ((is_among (numbers_in k x) j ≡ true) ⊎ ((t.next ≤ j) × (j < draft.next)))

        left_numbers : (j : ℕ) → is_among (numbers_left level (outcome_at (then draft) level left)) j ≡ true → IsLeft j
        unfolding IsLeft
        left_numbers j h =
            let new = new_numbers t.next counted.count in
            let old = under c ++ numbers_in k x in
            let moved : IsPermutation (old ++ new) (numbers_left level (outcome_at (then draft) level left)) = permutation_from_sums (old ++ new) (numbers_left level (outcome_at (then draft) level left)) (λ f. sum_by-append f old new ∙ sym (counted.sums f)) in
            by_test (is_among (under c) j) (is_among (numbers_in k x) j) (is_among new j) refl refl refl
            (ap (λ (b : Bool). b || is_among new j) (sym (list_any-append (nat_eq j) (under c) (numbers_in k x))) ∙ sym (list_any-append (nat_eq j) old new) ∙ list_any-IsPermutation (nat_eq j) (old ++ new) (numbers_left level (outcome_at (then draft) level left)) moved ∙ h)
          where
            by_test : (a b d : Bool) → is_among (under c) j ≡ a → is_among (numbers_in k x) j ≡ b → is_among (new_numbers t.next counted.count) j ≡ d → ((a || b) || d) ≡ true → (is_among (under c) j ≡ true) ⊎ ((is_among (numbers_in k x) j ≡ true) ⊎ ((t.next ≤ j) × (j < draft.next)))
            by_test true b d e y z m = inl e
            by_test false true d e y z m = inr (inl y)
            by_test false false true e y z m = let r = new_within t.next counted.count j z in inr (inr (r.0, omega (arith, r.1, counted.is)))
            by_test false false false e y z m = cc

        -- any table that differs from this one at the node's number and at the next number alone
        module _ (at : ℕ → Option Node) (rest : (q : ℕ) → (q ≡ number → ⊥) → (q ≡ draft.next → ⊥) → at q ≡ then draft q) where
          sibling : (k : ℕ) → is_among (flat_map under front ++ (under c ++ flat_map under back)) k ≡ true → is_among (under c) k ≡ false → at k ≡ before k
          sibling k h m = rest k (not_number k h) (λ s. let lt = low_then k h in omega (arith, g.changes.onward)) ∙ kept k m (low_then k h)

          front_kept : AllByRecursion (λ d. AreKept before at (under d)) front
          front_kept = all_from_flat_map (λ k. at k ≡ before k) under front (among_from_all (λ k. at k ≡ before k) (flat_map under front) (λ k h. sibling k (in_front k h) (front_apart k h)))

          back_kept : AllByRecursion (λ d. AreKept before at (under d)) back
          back_kept = all_from_flat_map (λ k. at k ≡ before k) under back (among_from_all (λ k. at k ≡ before k) (flat_map under back) (λ k h. sibling k (in_back k h) (back_apart k h (is_among (under c) k) refl)))

          left_kept : AreKept (then draft) at (numbers_left level (outcome_at (then draft) level left))
          unfolding IsLeft
          left_kept = among_from_all (λ j. at j ≡ then draft j) (numbers_left level (outcome_at (then draft) level left)) (λ j h. by_case j (left_numbers j h))
            where
              apart : (j : ℕ) → is_among own j ≡ false → j ≡ number → ⊥
              apart j off same = let yes = ap (is_among own) same ∙ number_own in cc

              by_case : (j : ℕ) → (is_among (under c) j ≡ true) ⊎ ((is_among (numbers_in k x) j ≡ true) ⊎ ((t.next ≤ j) × (j < draft.next))) → at j ≡ then draft j
              by_case j (inl h) = rest j (not_number j (in_middle j h)) (λ s. let lt = low_then j (in_middle j h) in omega (arith, g.changes.onward))
              by_case j (inr (inl h)) = let f = free j h in rest j (apart j f.0) (λ s. let lt = f.1 in omega (arith, g.changes.onward))
              by_case j (inr (inr h)) = rest j (λ s. let lt = number_low in omega (arith, h.0)) (λ s. omega (arith, h.1))

          branches_kept : (ds : List Child) → AllByRecursion (λ d. AreKept before at (under d)) ds → map (branch_at at level) ds ≡ map (branch_at before level) ds
          branches_kept ds h = map_same (branch_at at level) (branch_at before level) ds (all_imply (λ d k. branch_kept before at level d k) ds h)

          stands_then : (ds : List Child) → AllByRecursion (λ d. AreKept before at (under d)) ds → AllByRecursion (λ d. Stands before level d.node) ds → AllByRecursion (λ d. Stands at level d.node) ds
          stands_then ds h s = all_imply (λ d k. stands_kept before at level d.node k.0 k.1) ds (all_both _ _ ds h s)

          children_stood : AllByRecursion (λ d. Stands before level d.node) (front ++ c ∷ back)
          children_stood = subst (λ (n : Option Node). AllByRecursion (λ d. Stands before level d.node) (children_in n)) is spot.stands.1

          abbrev members : Body (suc level)
          members = with_outcome (map (branch_at before level) front) (outcome_at (then draft) level left) (map (branch_at before level) back)

          pub list_is : map (branch_at at level) (put_left front left back) ≡ members
          list_is = by_left left (outcome_kept (then draft) at level left left_kept)
            where
              firsts : map (branch_at at level) front ≡ map (branch_at before level) front
              firsts = branches_kept front front_kept

              lasts : map (branch_at at level) back ≡ map (branch_at before level) back
              lasts = branches_kept back back_kept

              by_left : (l : Left) → outcome_at at level l ≡ outcome_at (then draft) level l → map (branch_at at level) (put_left front l back) ≡ with_outcome (map (branch_at before level) front) (outcome_at (then draft) level l) (map (branch_at before level) back)
              by_left (One a) h =
                  map-append (branch_at at level) front (a ∷ back) ∙ ap₂ (λ (xs ys : List (Branch (Body level))). xs ++ branch_at at level a ∷ ys) firsts lasts
                  ∙ ap (λ (o : Outcome (Body level)). with_outcome (map (branch_at before level) front) o (map (branch_at before level) back)) h
              by_left (Two a b) h =
                  map-append (branch_at at level) front (a ∷ (back ++ b ∷ [])) ∙ ap (λ (ys : List (Branch (Body level))). map (branch_at at level) front ++ branch_at at level a ∷ ys) (map-append (branch_at at level) back (b ∷ []))
                  ∙ ap₂ (λ (xs ys : List (Branch (Body level))). xs ++ branch_at at level a ∷ (ys ++ branch_at at level b ∷ [])) firsts lasts ∙ ap (λ (o : Outcome (Body level)). with_outcome (map (branch_at before level) front) o (map (branch_at before level) back)) h

          pub list_stands : AllByRecursion (λ d. Stands at level d.node) (put_left front left back)
          list_stands = by_left left (each_kept (then draft) at level left left_kept g.stands)
            where
              firsts : AllByRecursion (λ d. Stands at level d.node) front
              firsts = stands_then front front_kept (all_front (λ d. Stands before level d.node) front (c ∷ back) children_stood)

              after_front : AllByRecursion (λ d. Stands before level d.node) (c ∷ back)
              after_front = all_back (λ d. Stands before level d.node) front (c ∷ back) children_stood

              lasts : AllByRecursion (λ d. Stands at level d.node) back
              lasts = stands_then back back_kept after_front.1

              by_left : (l : Left) → EachStands at level l → AllByRecursion (λ d. Stands at level d.node) (put_left front l back)
              by_left (One a) h = all_append (λ d. Stands at level d.node) front (a ∷ back) firsts (h, lasts)
              by_left (Two a b) h = all_append (λ d. Stands at level d.node) front (a ∷ (back ++ b ∷ [])) firsts (h.0, all_append (λ d. Stands at level d.node) back (b ∷ []) lasts (h.1, tt))

      rects_of : (at : ℕ → Option Node) (cs : List Child) → rects (suc level) (map (branch_at at level) cs) ≡ map (λ d. d.rect) cs
      rects_of at [] = refl
      rects_of at (d ∷ cs) = ap (λ (rs : List Rectangle). d.rect ∷ rs) (rects_of at cs)

      pub inner_stands : (at : ℕ → Option Node) (k : ℕ) (items : List Child) → at k ≡ Some (Inner items) → AllByRecursion (λ d. Stands at level d.node) items → Stands at (suc level) k
      inner_stands at k items h s = (subst IsInner (sym h) tt, subst (λ (n : Option Node). AllByRecursion (λ d. Stands at level d.node) (children_in n)) (sym h) s)

      module _ (below : Step) (g : IsGrownAt t k x level c.node below.left below.draft) (chosen : IsChosen (map (λ d. d.rect) front) c.rect (map (λ d. d.rect) back) (rect_of k x)) where
        -- the node's list after the insertion below
        abbrev now : Body (suc level)
        now = with_outcome (map (branch_at before level) front) (outcome_at (then below.draft) level below.left) (map (branch_at before level) back)

        -- with what is left of the node, this is an insertion
        grown : (outcome : Outcome (Body (suc level))) (next : ℕ) → Settles t.shape (suc level) number below.draft.next now outcome next → Grows t.shape k x (suc level) number t.next (body_at before (suc level) number) outcome next
        grown outcome next s =
            below_of (map (branch_at before level) front) (branch_at before level c) (map (branch_at before level) back) (outcome_at (then below.draft) level below.left) below.draft.next
            (ap (λ (n : Option Node). map (branch_at before level) (children_in n)) is ∙ map-append (branch_at before level) front (c ∷ back))
            (subst (λ (rs : List Rectangle). IsChosen rs c.rect (rects (suc level) (map (branch_at before level) back)) (rect_of k x)) (sym (rects_of before front)) (subst (λ (rs : List Rectangle). IsChosen (map (λ d. d.rect) front) c.rect rs (rect_of k x)) (sym (rects_of before back)) chosen))
            g.grows s

        old_size : length (front ++ c ∷ back) ≤ t.shape.max
        old_size =
            let most : length (map (branch_at before level) (children_in (before number))) ≤ t.shape.max = spot.most in
            let same : length (map (branch_at before level) (children_in (before number))) ≡ length (front ++ c ∷ back) = length-map (children_in (before number)) (branch_at before level) ∙ ap (λ (n : Option Node). length (children_in n)) is in
            omega arith

        -- the child is left as it was
        unchanged : (a : Child) → below.left ≡ One c → a.node ≡ number → bound_of (rects_in (Inner (front ++ c ∷ back))) ≡ Some a.rect → IsGrownAt t k x (suc level) number (One a) below.draft
        unchanged a same named bounds =
            let at = then below.draft in
            let rest : (q : ℕ) → (q ≡ number → ⊥) → (q ≡ below.draft.next → ⊥) → at q ≡ at q = λ q x y. refl in
            let list : put_left front below.left back ≡ front ++ c ∷ back = ap (λ (l : Left). put_left front l back) same in
            let here : at number ≡ Some (Inner (front ++ c ∷ back)) = look_unlisted t.nodes below.draft.parts number (number_off below.left below.draft g) ∙ is in
            let body : body_at at (suc level) number ≡ now = ap (λ (n : Option Node). map (branch_at at level) (children_in n)) here ∙ ap (map (branch_at at level)) (sym list) ∙ list_is below.left below.draft g at rest in
            let own_body : body_at at (suc level) a.node ≡ now = ap (λ (k : ℕ). body_at at (suc level) k) named ∙ body in
            let rectangles : rects (suc level) (body_at at (suc level) a.node) ≡ map (λ d. d.rect) (front ++ c ∷ back) = ap (λ (k : ℕ). rects (suc level) (body_at at (suc level) k)) named ∙ ap (λ (n : Option Node). rects (suc level) (map (branch_at at level) (children_in n))) here ∙ rects_of at (front ++ c ∷ back) in
            let size_now : length now ≡ length (front ++ c ∷ back) = ap (λ (b : Body (suc level)). length b) (sym body) ∙ ap (λ (n : Option Node). length (map (branch_at at level) (children_in n))) here ∙ length-map (front ++ c ∷ back) (branch_at at level) in
            let fits = old_size in
            record {
              grows = grown (one (branch_at at (suc level) a)) below.draft.next (omega arith, record { named = named; has = own_body; bounds = ap bound_of rectangles ∙ bounds }, refl);
              stands = subst (Stands at (suc level)) (sym named) (inner_stands at number (front ++ c ∷ back) here (subst (λ (cs : List Child). AllByRecursion (λ d. Stands at level d.node) cs) list (list_stands below.left below.draft g at rest)));
              changes = wider below.left below.draft g;
              few = omega (arith, g.few);
              few_new = omega (arith, g.few_new);
            }

        -- it is not
        changed : (left : Left) (draft : Draft) → ¬ (below.left ≡ One c) → IsSettled t.shape below.draft number (Inner (put_left front below.left back)) left draft → IsGrownAt t k x (suc level) number left draft
        changed left draft differs s =
            let items = put_left front below.left back in
            let n : Node = Inner items in
            let at = then draft in
            let w = wider below.left below.draft g in
            let o = number_off below.left below.draft g in
            let rest = look_rest t own spot.shape spot.below_next spot.fresh below.draft w number number_own o n left draft s in
            let list = list_is below.left below.draft g at rest in
            let stood = list_stands below.left below.draft g at rest in
            let same : rects_in n ≡ rects (suc level) now = sym (rects_of at items) ∙ ap (λ (b : Body (suc level)). rects (suc level) b) list in
            record {
              grows = grown (outcome_at at (suc level) left) draft.next
                  (settles_at t own spot.shape spot.below_next spot.fresh below.draft w number number_own o n (suc level) now same at
                  (λ k h. ap (λ (m : Option Node). map (branch_at at level) (children_in m)) h ∙ list)
                  (λ k is h. ap (λ (m : Option Node). map (branch_at at level) (children_in m)) h ∙ map-pick (branch_at at level) items is ∙ ap (λ (b : Body (suc level)). pick b is) list) left draft refl s);
              stands = stands_at t own spot.shape spot.below_next spot.fresh below.draft w number number_own o n (suc level) now same at
                  (λ k h. inner_stands at k items h stood)
                  (λ k is h. inner_stands at k (pick items is) h (all_pick (λ d. Stands at level d.node) items is stood)) left draft refl s;
              changes = settled_changes t own spot.shape spot.below_next spot.fresh below.draft w number number_own o n (λ h. other_list below.left differs (some_is (Inner (front ++ c ∷ back)) n (sym is ∙ h))) (λ m h. sizes below.left m (some_is (Inner (front ++ c ∷ back)) m (sym is ∙ h))) left draft s;
              few = let f = settled_few t own spot.shape spot.below_next spot.fresh below.draft w number number_own o n left draft s in omega (arith, f, g.few);
              few_new = let f = settled_next t own spot.shape spot.below_next spot.fresh below.draft w number number_own o n left draft s in omega (arith, f, g.few_new);
            }
          where
            inner_list : (xs ys : List Child) → Inner xs ≡ Inner ys → xs ≡ ys
            inner_list xs ys h = cc

            same_at : (fs bs : List Child) (x y : Child) → fs ++ x ∷ bs ≡ fs ++ y ∷ bs → x ≡ y
            same_at [] bs x y h = cc
            same_at (f ∷ fs) bs x y h = same_at fs bs x y (let r : fs ++ x ∷ bs ≡ fs ++ y ∷ bs = cc in r)

            longer : (a b : Child) → front ++ c ∷ back ≡ front ++ a ∷ (back ++ b ∷ []) → ⊥
            longer a b h = let l = ap (λ (cs : List Child). length cs) h in omega (arith, l, length-append front (c ∷ back), length-append front (a ∷ (back ++ b ∷ [])), length-append back (b ∷ []))

            other_list : (l : Left) → ¬ (l ≡ One c) → Inner (front ++ c ∷ back) ≡ Inner (put_left front l back) → ⊥
            other_list (One a) d h = d (ap One (sym (same_at front back c a (inner_list (front ++ c ∷ back) (front ++ a ∷ back) h))))
            other_list (Two a b) d h = longer a b (inner_list (front ++ c ∷ back) (front ++ a ∷ (back ++ b ∷ [])) h)

            sizes : (l : Left) (m : Node) → Inner (front ++ c ∷ back) ≡ m → size (Inner (put_left front l back)) ≤ size m + 1
            sizes (One a) m h =
                let z = ap size h in
                omega (arith, z, length-map (front ++ c ∷ back) (λ (d : Child). d.rect), length-map (front ++ a ∷ back) (λ (d : Child). d.rect), length-append front (c ∷ back), length-append front (a ∷ back))
            sizes (Two a b) m h =
                let z = ap size h in
                omega (
                  arith,
                  z,
                  length-map (front ++ c ∷ back) (λ (d : Child). d.rect),
                  length-map (front ++ a ∷ (back ++ b ∷ [])) (λ (d : Child). d.rect),
                  length-append front (c ∷ back),
                  length-append front (a ∷ (back ++ b ∷ [])),
                  length-append back (b ∷ []),
                )

        pub grown_above : (after : Step) → IsStepped t.shape number front c back below after → IsGrownAt t k x (suc level) number after.left after.draft
        grown_above after (inl s) =
            subst (λ (l : Left). IsGrownAt t k x (suc level) number l after.draft) (sym s.2.1) (subst (λ (d : Draft). IsGrownAt t k x (suc level) number (One s.2.0) d) (sym s.1) (unchanged s.2.0 s.0 s.2.2 s.2.3))
        grown_above after (inr s) = changed after.left after.draft s.0 s.1
