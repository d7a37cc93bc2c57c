-- A node that is put under its number, whole or in two groups: what the table has then.
use Rattle.std.proofs.Common.{◌≡◌, ℕ, zero, suc, ◌+◌, ◌<◌, ◌≤◌, ◌⊎◌, inl, inr, Bool, true, false, cond, List, [], ◌∷◌, ◌++◌, length, map, slice_get, Option, Some, None, refl, sym, ap, ap₂, ◌∙◌, subst, arith}
use Rattle.std.specs.Prelude.{nat_eq}
use Rattle.std.specs.List.{AllByRecursion}
use Rattle.std.specs.Option.{IsSome, option_to_list}
use Rattle.std.proofs.lemmas.Bool.{cases_lt}
use Rattle.std.proofs.lemmas.List.{map-append, length-map}
use Rattle.sp_rect.specs.Plane.{Rectangle}
use Rattle.sp_rect.specs.Inside.{bound_of}
use Rattle.sp_node.specs.declared.node.Entry.{Entry}
use Rattle.sp_node.specs.declared.node.Child.{Child}
use Rattle.sp_node.specs.declared.node.Node.{Node}
use Rattle.sp_node.specs.declared.node.Node.TheVariants.{Leaf, Inner}
use Rattle.sp_node.specs.declared.plan.Part.{Part}
use Rattle.sp_node.specs.declared.plan.Part.TheVariants.{Now}
use Rattle.sp_node.specs.Nested.{Body, rects, rect_of}
use Rattle.sp_node.specs.Look.{look}
use Rattle.sp_node.specs.Plan.{number_of, with_parts, put_part, Differs}
use Rattle.sp_node.specs.Table.{Table, body_at, Stands, IsShape}
use Rattle.sp_node.proofs.Lists.{all_imply}
use Rattle.sp_node.proofs.Adopt.{listed, ordered_put}
use Rattle.sp_split.specs.Split.{is_among, Splits}
use Rattle.sp_split.proofs.Members.{among_all, unequal_from, self_equal}
use Rattle.sp_grow.specs.Members.{pick, rects_in, pick_node}
use Rattle.sp_grow.specs.Insertion.{Settles}
use Rattle.sp_grow.specs.Below.{AreChanges, IsSettled, IsNow, outcome_at, EachStands}
use Rattle.sp_grow.specs.declared.left.Left.{Left}
use Rattle.sp_grow.specs.declared.left.Left.TheVariants.{One, Two}
use Rattle.sp_grow.specs.declared.left.Draft.{Draft}
use Rattle.sp_grow.proofs.Divides.{size, parted}
use Rattle.sp_grow.proofs.Parts.{look_put, look_own, look_other, length_put, all_put, off_parts, put_listed}

-- the rectangles of the members at some positions
module _ {X Y : Type 0} (f : X → Y) where
  at_map : (xs : List X) (i : ℕ) → map f (option_to_list (slice_get xs i)) ≡ option_to_list (slice_get (map f xs) i)
  at_map [] i = refl
  at_map (x ∷ xs) zero = refl
  at_map (x ∷ xs) (suc i) = at_map xs i

  pub map-pick : (xs : List X) (is : List ℕ) → map f (pick xs is) ≡ pick (map f xs) is
  map-pick xs [] = refl
  map-pick xs (i ∷ is) = map-append f (option_to_list (slice_get xs i)) (pick xs is) ∙ ap₂ (λ (a b : List Y). a ++ b) (at_map xs i) (map-pick xs is)

rects_pick : (n : Node) (is : List ℕ) → rects_in (pick_node n is) ≡ pick (rects_in n) is
rects_pick (Leaf es) is = map-pick (λ (e : Entry). e.rect) es is
rects_pick (Inner cs) is = map-pick (λ (c : Child). c.rect) cs is

draft_is : (after : Draft) (ps : List Part) (k : ℕ) → after.parts ≡ ps → after.next ≡ k → record { parts = ps; next = k } ≡ after
draft_is after ps k e d = λ i. record { parts = sym e i; next = sym d i }

-- one part more
module _ (t : Table) (ns : List ℕ) where
  abbrev IsOwned : ℕ → ℕ → Type 0
  IsOwned next k = (is_among ns k ≡ true) ⊎ ((t.next ≤ k) × (k < next))

  wider : (next next' k : ℕ) → next ≤ next' → IsOwned next k → IsOwned next' k
  wider next next' k le (inl h) = inl h
  wider next next' k le (inr h) = inr (h.0, omega (arith, h.1))

  module _ (draft : Draft) (c : AreChanges t ns draft) (k : ℕ) (m : Node) (next' : ℕ) (le : draft.next ≤ next') (own : IsOwned next' k) (off : listed draft.parts k ≡ false) (differ : ¬ (look t.nodes k ≡ Some m)) (only : (j : ℕ) → draft.next ≤ j → j < next' → j ≡ k) where
    made_then : (j : ℕ) → t.next ≤ j → j < next' → IsSome (look (with_parts t.nodes (put_part draft.parts (Now k m))) j)
    made_then j low lt = by_test (nat_eq j k) refl
      where
        earlier : nat_eq j k ≡ false → (j < draft.next) ⊎ (draft.next ≤ j) → IsSome (look (with_parts t.nodes draft.parts) j)
        earlier e (inl lt) = c.made j low lt
        earlier e (inr ge) = let same : j ≡ k = only j ge lt in let d = unequal j same in cc
          where
            unequal : (i : ℕ) → i ≡ k → nat_eq i k ≡ true
            unequal i s = ap (λ (x : ℕ). nat_eq x k) s ∙ self_equal k

        by_test : (b : Bool) → nat_eq j k ≡ b → IsSome (look (with_parts t.nodes (put_part draft.parts (Now k m))) j)
        by_test true e = subst IsSome (sym (look_put t.nodes draft.parts k m j off ∙ ap (λ (b : Bool). cond b (Some m) (look (with_parts t.nodes draft.parts) j)) e)) refl
        by_test false e = subst IsSome (sym (look_put t.nodes draft.parts k m j off ∙ ap (λ (b : Bool). cond b (Some m) (look (with_parts t.nodes draft.parts) j)) e)) (earlier e (cases_lt j draft.next))

    pub put_changes : AreChanges t ns (record { parts = put_part draft.parts (Now k m); next = next' })
    put_changes = record {
      owned = all_put (λ p. IsOwned next' (number_of p)) draft.parts (Now k m) (all_imply (λ p h. wider draft.next next' (number_of p) le h) draft.parts c.owned) own;
      made = made_then;
      now = all_put IsNow draft.parts (Now k m) c.now tt;
      ordered = ordered_put draft.parts (Now k m) c.ordered off;
      differs = all_put (Differs t.nodes) draft.parts (Now k m) c.differs differ;
      onward = omega (arith, c.onward);
    }

module _ (t : Table) (ns : List ℕ) (shape : IsShape t.shape) (low : AllByRecursion (λ n. n < t.next) ns) (fresh : (k : ℕ) → t.next ≤ k → look t.nodes k ≡ None) where
  pub next_off : (draft : Draft) → AreChanges t ns draft → listed draft.parts draft.next ≡ false
  next_off draft c = off_parts (IsOwned t ns draft.next) draft.parts draft.next c.owned never
    where
      never : IsOwned t ns draft.next draft.next → ⊥
      never (inl h) = let lt : draft.next < t.next = among_all (λ n. n < t.next) ns draft.next low h in omega (arith, c.onward)
      never (inr h) = omega (arith, h.1)

  module _ (draft : Draft) (c : AreChanges t ns draft) (number : ℕ) (own : is_among ns number ≡ true) (off : listed draft.parts number ≡ false) (n : Node) where
    apart : draft.next ≡ number → ⊥
    apart e = let lt : number < t.next = among_all (λ k. k < t.next) ns number low own in omega (arith, c.onward)

    off_then : (m : Node) → listed (put_part draft.parts (Now number m)) draft.next ≡ false
    off_then m = put_listed draft.parts (Now number m) draft.next (next_off draft c) (unequal_from draft.next number apart)

    -- the node differs from the old one under its number, and has at most one member more
    module _ (differ : ¬ (look t.nodes number ≡ Some n)) (old : (m : Node) → look t.nodes number ≡ Some m → size n ≤ size m + 1) where
      pub settled_changes : (left : Left) (after : Draft) → IsSettled t.shape draft number n left after → AreChanges t ns after
      settled_changes (One a) after s =
          subst (AreChanges t ns) (draft_is after (put_part draft.parts (Now number n)) draft.next s.3 s.4)
          (put_changes t ns draft c number n draft.next (omega arith) (inl own) off differ (λ j ge lt. absurd (omega arith)))
      settled_changes (Two a b) after s =
          let p = parted t.shape shape n s.0 s.1 s.2 s.3 in
          let least : 2 ≤ t.shape.min = shape.least in
          let first : Draft = record { parts = put_part draft.parts (Now number (pick_node n s.0)); next = draft.next } in
          let differ' : ¬ (look t.nodes number ≡ Some (pick_node n s.0)) = λ e. omega (arith, old (pick_node n s.0) e, p.all, p.low') in
          let d : AreChanges t ns first = put_changes t ns draft c number (pick_node n s.0) draft.next (omega arith) (inl own) off differ' (λ j ge lt. absurd (omega arith)) in
          subst (AreChanges t ns) (draft_is after (put_part first.parts (Now draft.next (pick_node n s.1))) (draft.next + 1) s.8 s.9)
          (put_changes t ns first d draft.next (pick_node n s.1) (draft.next + 1) (omega arith) (inr (c.onward, omega arith)) (off_then (pick_node n s.0)) (λ e. nothing (look t.nodes draft.next) (fresh draft.next c.onward) e) (λ j ge lt. omega arith))
        where
          nothing : (o : Option Node) → o ≡ None → o ≡ Some (pick_node n s.1) → ⊥
          nothing o e d = cc

    pub settled_few : (left : Left) (after : Draft) → IsSettled t.shape draft number n left after → length after.parts ≤ length draft.parts + 2
    settled_few (One a) after s = omega (arith, ap (λ (ps : List Part). length ps) s.3, length_put draft.parts (Now number n))
    settled_few (Two a b) after s =
        omega (arith, ap (λ (ps : List Part). length ps) s.8, length_put draft.parts (Now number (pick_node n s.0)), length_put (put_part draft.parts (Now number (pick_node n s.0))) (Now draft.next (pick_node n s.1)))

    pub settled_next : (left : Left) (after : Draft) → IsSettled t.shape draft number n left after → after.next ≤ draft.next + 1
    settled_next (One a) after s = omega (arith, s.4)
    settled_next (Two a b) after s = omega (arith, s.9)

    -- what stands under the numbers then
    abbrev then : Draft → ℕ → Option Node
    then d q = look (with_parts t.nodes d.parts) q

    pub look_rest : (left : Left) (after : Draft) → IsSettled t.shape draft number n left after → (q : ℕ) → (q ≡ number → ⊥) → (q ≡ draft.next → ⊥) → then after q ≡ then draft q
    look_rest (One a) after s q x y = ap (λ (ps : List Part). look (with_parts t.nodes ps) q) s.3 ∙ look_other t.nodes draft.parts number n q off x
    look_rest (Two a b) after s q x y =
        ap (λ (ps : List Part). look (with_parts t.nodes ps) q) s.8 ∙ look_other t.nodes (put_part draft.parts (Now number (pick_node n s.0))) draft.next (pick_node n s.1) q (off_then (pick_node n s.0)) y
        ∙ look_other t.nodes draft.parts number (pick_node n s.0) q off x

    look_whole : (a : Child) (after : Draft) → IsSettled t.shape draft number n (One a) after → then after number ≡ Some n
    look_whole a after s = ap (λ (ps : List Part). look (with_parts t.nodes ps) number) s.3 ∙ look_own t.nodes draft.parts number n off

    look_first : (a b : Child) (after : Draft) → (s : IsSettled t.shape draft number n (Two a b) after) → then after number ≡ Some (pick_node n s.0)
    look_first a b after s =
        ap (λ (ps : List Part). look (with_parts t.nodes ps) number) s.8 ∙ look_other t.nodes (put_part draft.parts (Now number (pick_node n s.0))) draft.next (pick_node n s.1) number (off_then (pick_node n s.0)) (λ e. apart (sym e))
        ∙ look_own t.nodes draft.parts number (pick_node n s.0) off

    look_second : (a b : Child) (after : Draft) → (s : IsSettled t.shape draft number n (Two a b) after) → then after draft.next ≡ Some (pick_node n s.1)
    look_second a b after s =
        ap (λ (ps : List Part). look (with_parts t.nodes ps) draft.next) s.8 ∙ look_own t.nodes (put_part draft.parts (Now number (pick_node n s.0))) draft.next (pick_node n s.1) (off_then (pick_node n s.0))

    -- as a nested tree
    module _ (level : ℕ) (members : Body level) (same : rects_in n ≡ rects level members) where
      groups : (is : List ℕ) → rects_in (pick_node n is) ≡ rects level (pick members is)
      groups is = rects_pick n is ∙ ap (λ (rs : List Rectangle). pick rs is) same ∙ sym (map-pick (rect_of level) members is)

      count : length (rects_in n) ≡ length members
      count = ap (λ (rs : List Rectangle). length rs) same ∙ length-map members (rect_of level)

      bounds : (a : Child) (ms ms' : Body level) (rs : List Rectangle) → rs ≡ rects level ms → bound_of rs ≡ Some a.rect → ms' ≡ ms → bound_of (rects level ms') ≡ Some a.rect
      bounds a ms ms' rs e h d = ap (λ (m : Body level). bound_of (rects level m)) d ∙ ap bound_of (sym e) ∙ h

      module _ (at : ℕ → Option Node) (whole : (k : ℕ) → at k ≡ Some n → body_at at level k ≡ members) (part : (k : ℕ) (is : List ℕ) → at k ≡ Some (pick_node n is) → body_at at level k ≡ pick members is) where
        pub settles_at : (left : Left) (after : Draft) → at ≡ then after → IsSettled t.shape draft number n left after → Settles t.shape level number draft.next members (outcome_at at level left) after.next
        settles_at (One a) after is s =
            let here : body_at at level a.node ≡ members = whole a.node (ap at s.1 ∙ (λ i. is i number) ∙ look_whole a after s) in
            (omega (arith, count, s.0), record { named = s.1; has = here; bounds = bounds a members (body_at at level a.node) (rects_in n) same s.2 here }, s.4)
        settles_at (Two a b) after is s =
            let here : body_at at level a.node ≡ pick members s.0 = part a.node s.0 (ap at s.4 ∙ (λ i. is i number) ∙ look_first a b after s) in
            let there : body_at at level b.node ≡ pick members s.1 = part b.node s.1 (ap at s.6 ∙ (λ i. is i draft.next) ∙ look_second a b after s) in (
              s.0,
              s.1,
              omega (arith, count, s.2),
              splits s.0 s.1 s.3,
              record { named = s.4; has = here; bounds = bounds a (pick members s.0) (body_at at level a.node) (rects_in (pick_node n s.0)) (groups s.0) s.5 here },
              record { named = s.6; has = there; bounds = bounds b (pick members s.1) (body_at at level b.node) (rects_in (pick_node n s.1)) (groups s.1) s.7 there },
              s.9,
            )
          where
            splits : (first second : List ℕ) → Splits (rects_in n) t.shape.min first second → Splits (rects level members) t.shape.min first second
            splits first second h = subst (λ (rs : List Rectangle). Splits rs t.shape.min first second) same h

      module _ (at : ℕ → Option Node) (whole : (k : ℕ) → at k ≡ Some n → Stands at level k) (part : (k : ℕ) (is : List ℕ) → at k ≡ Some (pick_node n is) → Stands at level k) where
        pub stands_at : (left : Left) (after : Draft) → at ≡ then after → IsSettled t.shape draft number n left after → EachStands at level left
        stands_at (One a) after is s = whole a.node (ap at s.1 ∙ (λ i. is i number) ∙ look_whole a after s)
        stands_at (Two a b) after is s = (part a.node s.0 (ap at s.4 ∙ (λ i. is i number) ∙ look_first a b after s), part b.node s.1 (ap at s.6 ∙ (λ i. is i draft.next) ∙ look_second a b after s))
