-- An orphan is inserted.
use Rattle.std.proofs.Common.{◌≡◌, ℕ, zero, suc, ◌+◌, ◌<◌, ◌≤◌, ◌⊎◌, inl, inr, Bool, true, false, ◌||◌, List, [], ◌∷◌, ◌++◌, length, Option, Some, None, is_some, refl, sym, ap, ◌∙◌, subst, arith}
use Rattle.std.specs.Prelude.{nat_eq, cond}
use Rattle.std.specs.List.{AllByRecursion, IsDistinct}
use Rattle.std.specs.List.Sorted.{IsPermutation}
use Rattle.std.specs.Option.{IsSome}
use Rattle.std.proofs.lemmas.Cmp.{nat_eq_equiv}
use Rattle.std.proofs.lemmas.List.Folds.{list_any-append}
use Rattle.std.proofs.lemmas.List.Sorted.{list_any-IsPermutation}
use Rattle.std.proofs.lemmas.List.Sums.{sum_by-append}
use Rattle.std.proofs.lemmas.Map.Keys.{IsDistinct-head, IsDistinct-tail, IsDistinct-cons, IsDistinct-IsPermutation, IsDistinct-from_apart}
use Rattle.sp_node.specs.declared.node.Entry.{Entry}
use Rattle.sp_node.specs.declared.node.Node.{Node}
use Rattle.sp_node.specs.declared.node.Shape.{Shape}
use Rattle.sp_node.specs.declared.plan.Part.{Part}
use Rattle.sp_node.specs.declared.plan.Part.TheVariants.{Now, Gone}
use Rattle.sp_node.specs.declared.plan.Plan.{Plan}
use Rattle.sp_node.specs.Among.{Among}
use Rattle.sp_node.specs.Nested.{Member, Body, Branch, entries, AreSound}
use Rattle.sp_node.specs.Look.{look}
use Rattle.sp_node.specs.Plan.{with_parts}
use Rattle.sp_node.specs.Table.{Table, body_at, IsShape, entries_of}
use Rattle.sp_node.proofs.Adopt.{part_at, look_parts, listed}
use Rattle.sp_node.proofs.Update.{distinct_apart, IsNone}
use Rattle.sp_split.specs.Split.{is_among}
use Rattle.sp_split.proofs.Members.{among_all, all_none, none_all, permutation_from_sums}
use Rattle.sp_grow.specs.declared.member.Member.{Member as Item}
use Rattle.sp_grow.specs.declared.member.Member.TheVariants.{Entry as EntryOf, Child as ChildOf}
use Rattle.sp_grow.specs.Below.{numbers, numbers_in, IsNow, IsSpot, IsMember, Aims}
use Rattle.sp_grow.specs.Nest.{nest, IsInserted}
use Rattle.sp_grow.specs.Overlay.{Overlay, table_of, with_plan, all_renewed}
use Rattle.sp_grow.specs.Reached.{IsPart, IsAfter, Reached, whole, split, new_numbers}
use Rattle.sp_grow.proofs.Counting.{new_within, new_there, new_distinct}
use Rattle.sp_grow.proofs.Numbers.{AreKept, among_from_all, all_front, all_back, branch_kept, stands_kept}
use Rattle.sp_grow.proofs.Parts.{off_parts, look_unlisted}
use Rattle.sp_grow.proofs.Renewed.{part_at_all}
use Rattle.sp_condense.specs.declared.orphans.Orphan.{Orphan as Found}
use Rattle.sp_condense.specs.Removal.{Orphan, Inserts}
use Rattle.sp_condense.specs.Taking.{IsFound, AreFound, orphan_numbers}
use Rattle.sp_condense.specs.Staging.{Counts, stays, rises, IsStage, orphan_entries, all_numbers, at_of, Ready, nest_of, Goes}
use Rattle.sp_condense.proofs.Powers.{level_low}

clash : (x : Bool) → x ≡ true → x ≡ false → ⊥
clash x y z = cc

-- a part that is there now leaves its node
still_some : (ps : List Part) (k : ℕ) (o : Option Node) → AllByRecursion IsNow ps → IsSome o → IsSome (part_at ps k o)
still_some [] k o h s = s
still_some (Now j n ∷ ps) k o h s = by_test (nat_eq k j) (still_some ps k o h.1 s)
  where
    by_test : (b : Bool) → IsSome (part_at ps k o) → IsSome (cond b (Some n) (part_at ps k o))
    by_test true m = refl
    by_test false m = m
still_some (Gone j ∷ ps) k o h s = absurd h.0

pub distinct_front : (xs ys : List ℕ) → IsDistinct nat_eq (xs ++ ys) → IsDistinct nat_eq xs
distinct_front [] ys d = IsDistinct-from_apart nat_eq [] (λ i j e lt len. absurd (omega arith))
distinct_front (x ∷ xs) ys d = IsDistinct-cons nat_eq x xs (all_front (λ y. nat_eq x y ≡ false) xs ys (IsDistinct-head nat_eq x (xs ++ ys) d)) (distinct_front xs ys (IsDistinct-tail nat_eq x (xs ++ ys) d))

-- new numbers come to distinct ones
pub joined : (next count : ℕ) (xs : List ℕ) → AllByRecursion (λ n. n < next) xs → IsDistinct nat_eq xs → IsDistinct nat_eq (xs ++ new_numbers next count)
joined next count [] low d = new_distinct next count
joined next count (x ∷ xs) low d =
    IsDistinct-cons nat_eq x (xs ++ new_numbers next count)
    (none_all (xs ++ new_numbers next count) x (list_any-append (nat_eq x) xs (new_numbers next count) ∙ both (is_among xs x) (is_among (new_numbers next count) x) (all_none xs x (IsDistinct-head nat_eq x xs d)) (off (is_among (new_numbers next count) x) refl)))
    (joined next count xs low.1 (IsDistinct-tail nat_eq x xs d))
  where
    both : (a b : Bool) → a ≡ false → b ≡ false → (a || b) ≡ false
    both a b e f = cc

    off : (b : Bool) → is_among (new_numbers next count) x ≡ b → b ≡ false
    off true h = let r = new_within next count x h in absurd (omega (arith, r.0, low.0))
    off false h = refl

-- two lists with no number in common
pub apart_lists : (xs ys : List ℕ) (k : ℕ) → IsDistinct nat_eq (xs ++ ys) → is_among ys k ≡ true → is_among xs k ≡ false
apart_lists xs ys k d h = by_test (is_among xs k) refl
  where
    by_test : (b : Bool) → is_among xs k ≡ b → is_among xs k ≡ false
    by_test true e = let apart = among_all (IsNone ys) xs k (distinct_apart xs ys d) e in absurd (clash (is_among ys k) h (all_none ys k apart))
    by_test false e = e

steps_are : (f : Found) (top raised level k : ℕ) → f.depth + k ≡ top → level ≡ top + raised → level ≡ (f.depth + raised) + k
steps_are f top raised level k deep up = omega arith

member_of : (u : Table) (f : Found) (level raised : ℕ) (item : Item) (k : ℕ) (y : Member k) → level ≡ (f.depth + raised) + k → IsFound (look u.nodes) item k y → IsMember u item (f.depth + raised) level k y
member_of u f level raised (EntryOf z) zero y up h = h
member_of u f level raised (EntryOf z) (suc j) y up h = absurd h
member_of u f level raised (ChildOf c) zero y up h = absurd h
member_of u f level raised (ChildOf c) (suc j) y up h = (up, h.0, h.1)

module _ (t : Table) (e : Entry) where
  -- a node of a stage
  pub stage_spot : (u : Table) (level : ℕ) (orphans : List Orphan) → u.shape ≡ t.shape → IsStage t e (look u.nodes) u.root u.next level orphans → IsSpot u level u.root
  stage_spot u level orphans same s =
      let own = numbers level u.root (body_at (look u.nodes) level u.root) in
      let low = all_front (λ n. n < u.next) own (orphan_numbers orphans) s.low in
      let distinct = distinct_front own (orphan_numbers orphans) s.distinct in
      let small = level_low t.shape s.shape level u.root (body_at (look u.nodes) level u.root) u.next s.sound s.some distinct low (omega (arith, s.room)) in
      record {
        shape = subst IsShape (sym same) s.shape;
        stands = s.stands;
        some = s.some;
        most = subst (λ (h : Shape). length (body_at (look u.nodes) level u.root) ≤ h.max) (sym same) s.most;
        sound = subst (λ (h : Shape). AreSound h level (body_at (look u.nodes) level u.root)) (sym same) s.sound;
        low = omega (arith, small.0);
        distinct = distinct;
        below_next = low;
        fresh = λ k le. fresh k le (look u.nodes k) refl (s.exact k);
        room = omega (arith, small.1, s.room);
      }
    where
      fresh : (k : ℕ) → u.next ≤ k → (o : Option Node) → look u.nodes k ≡ o → is_some (look u.nodes k) ≡ is_among (all_numbers (look u.nodes) u.root level orphans) k → look u.nodes k ≡ None
      fresh k le None h x = h
      fresh k le (Some n) h x = let there = sym x ∙ ap is_some h in let lt = among_all (λ n. n < u.next) (all_numbers (look u.nodes) u.root level orphans) k s.low there in absurd (omega arith)

  module _ (u : Table) (level : ℕ) (x : Orphan) (os : List Orphan) (same : u.shape ≡ t.shape) (s : IsStage t e (look u.nodes) u.root u.next level (x ∷ os)) where
    abbrev at : ℕ → Option Node
    at = look u.nodes

    abbrev own : List ℕ
    own = numbers level u.root (body_at at level u.root)

    abbrev mine : List ℕ
    mine = numbers_in x.level x.member

    abbrev rest : List ℕ
    rest = orphan_numbers os

    abbrev all : List ℕ
    all = own ++ (mine ++ rest)

    in_mine : (j : ℕ) → is_among mine j ≡ true → is_among (mine ++ rest) j ≡ true
    in_mine j h = list_any-append (nat_eq j) mine rest ∙ ap (λ (b : Bool). b || is_among rest j) h

    in_rest : (j : ℕ) → is_among rest j ≡ true → is_among (mine ++ rest) j ≡ true
    in_rest j h = list_any-append (nat_eq j) mine rest ∙ ap (λ (b : Bool). is_among mine j || b) h ∙ or_true (is_among mine j)
      where
        or_true : (b : Bool) → (b || true) ≡ true
        or_true true = refl
        or_true false = refl

    low_orphans : AllByRecursion (λ n. n < u.next) (mine ++ rest)
    low_orphans = all_back (λ n. n < u.next) own (mine ++ rest) s.low

    -- the member that is inserted
    free_mine : (j : ℕ) → is_among mine j ≡ true → (is_among own j ≡ false) × (j < u.next)
    free_mine j h = (apart_lists own (mine ++ rest) j s.distinct (in_mine j h), among_all (λ n. n < u.next) (mine ++ rest) j low_orphans (in_mine j h))

    abbrev aims : (f : Found) (top raised : ℕ) → f.depth + x.level ≡ top → level ≡ top + raised → IsFound at f.member x.level x.member → Aims u f.member (f.depth + raised) u.root
    aims f top raised deep up found = record {
      level = level;
      spot = stage_spot u level (x ∷ os) same s;
      k = x.level;
      x = x.member;
      inserted = record {
        member = member_of u f level raised f.member x.level x.member (steps_are f top raised level x.level deep up) found;
        free = free_mine;
      };
    }

    module _ (plan : Plan) (level' : ℕ) (r : IsAfter u x.level x.member level plan.parts plan.root plan.next level') (up : level' ≤ suc level) where
      abbrev after : ℕ → Option Node
      after = look (with_parts u.nodes plan.parts)

      abbrev own' : List ℕ
      own' = numbers level' plan.root (body_at after level' plan.root)

      abbrev all' : List ℕ
      all' = own' ++ rest

      abbrev new : List ℕ
      new = new_numbers u.next r.count

      moved : IsPermutation (all ++ new) all'
      moved = permutation_from_sums (all ++ new) all' (λ f. omega (arith, r.sums f, sum_by-append f all new, sum_by-append f own (mine ++ rest), sum_by-append f mine rest, sum_by-append f own' rest, sum_by-append f own mine))

      member' : (k : ℕ) → is_among all' k ≡ (is_among all k || is_among new k)
      member' k = sym (list_any-IsPermutation (nat_eq k) (all ++ new) all' moved) ∙ list_any-append (nat_eq k) all new

      -- the parts are of the tree's own numbers and of new ones
      unowned : (k : ℕ) → is_among own k ≡ false → is_among new k ≡ false → listed plan.parts k ≡ false
      unowned k a b = off_parts (λ j. (is_among own j ≡ true) ⊎ ((u.next ≤ j) × (j < plan.next))) plan.parts k r.owned never
        where
          never : (is_among own k ≡ true) ⊎ ((u.next ≤ k) × (k < plan.next)) → ⊥
          never (inl h) = clash (is_among own k) h a
          never (inr h) = clash (is_among new k) (new_there u.next r.count k h.0 (omega (arith, h.1, r.next_is))) b

      not_new : (k : ℕ) → k < u.next → is_among new k ≡ false
      not_new k lt = off (is_among new k) refl
        where
          off : (b : Bool) → is_among new k ≡ b → is_among new k ≡ false
          off true h = let w = new_within u.next r.count k h in absurd (omega (arith, w.0))
          off false h = h

      after_look : (k : ℕ) → is_some (after k) ≡ (is_among all k || is_among new k)
      after_look k = by_test (is_among all k) (is_among new k) refl refl
        where
          own_off : is_among all k ≡ false → is_among own k ≡ false
          own_off h = off (is_among own k) refl
            where
              off : (b : Bool) → is_among own k ≡ b → is_among own k ≡ false
              off true m = absurd (clash (is_among all k) (list_any-append (nat_eq k) own (mine ++ rest) ∙ ap (λ (b : Bool). b || is_among (mine ++ rest) k) m) h)
              off false m = m

          by_test : (a b : Bool) → is_among all k ≡ a → is_among new k ≡ b → is_some (after k) ≡ (a || b)
          by_test true b p q = subst IsSome (sym (look_parts u.nodes plan.parts k)) (still_some plan.parts k (at k) r.now (s.exact k ∙ p))
          by_test false true p q = let w = new_within u.next r.count k q in r.made k w.0 (omega (arith, w.1, r.next_is))
          by_test false false p q = ap is_some (look_unlisted u.nodes plan.parts k (unowned k (own_off p) q)) ∙ s.exact k ∙ p

      low' : AllByRecursion (λ n. n < plan.next) all'
      low' = among_from_all (λ n. n < plan.next) all' (λ k h. by_test k (is_among all k) (is_among new k) refl refl (sym (member' k) ∙ h))
        where
          by_test : (k : ℕ) (a b : Bool) → is_among all k ≡ a → is_among new k ≡ b → (is_among all k || is_among new k) ≡ true → k < plan.next
          by_test k true b p q h = let lt = among_all (λ n. n < u.next) all k s.low p in omega (arith, r.next_is, lt)
          by_test k false true p q h = let w = new_within u.next r.count k q in omega (arith, w.1, r.next_is)
          by_test k false false p q h = cc

      old' : (k : ℕ) → is_among all' k ≡ true → k < t.next → IsSome (look t.nodes k)
      old' k h lt = by_test (is_among all k) refl (sym (member' k) ∙ h)
        where
          by_test : (a : Bool) → is_among all k ≡ a → (is_among all k || is_among new k) ≡ true → IsSome (look t.nodes k)
          by_test true p m = s.old k p lt
          by_test false p m = let off = not_new k (omega (arith, s.onward)) in absurd (both (is_among all k) (is_among new k) p off m)
            where
              both : (a b : Bool) → a ≡ false → b ≡ false → (a || b) ≡ true → ⊥
              both a b u v w = cc

      pub stage_after : IsStage t e after plan.root plan.next level' os
      stage_after = record {
        shape = s.shape;
        stands = r.stands;
        some = r.some;
        most = subst (λ (h : Shape). length (body_at after level' plan.root) ≤ h.max) same r.most;
        sound = subst (λ (h : Shape). AreSound h level' (body_at after level' plan.root)) same r.sound;
        parts = s.parts.1;
        distinct = IsDistinct-IsPermutation nat_eq nat_eq_equiv.symm (all ++ new) all' moved (joined u.next r.count all s.low s.distinct);
        low = low';
        exact = λ k. after_look k ∙ sym (member' k);
        old = old';
        onward = omega (arith, s.onward, r.next_is);
        entry_sums = λ w. omega (arith, s.entry_sums w, r.entry_sums w, sum_by-append w (entries x.level (x.member ∷ [])) (orphan_entries os));
        each = r.each (entries_of t) s.each (all_front (λ f. Among f (entries_of t)) (entries x.level (x.member ∷ [])) (orphan_entries os) s.each_orphan);
        each_orphan = all_back (λ f. Among f (entries_of t)) (entries x.level (x.member ∷ [])) (orphan_entries os) s.each_orphan;
        room = let small = level_low t.shape s.shape level u.root (body_at at level u.root) u.next s.sound s.some (distinct_front own (mine ++ rest) s.distinct) (all_front (λ n. n < u.next) own (mine ++ rest) s.low) (omega (arith, s.room)) in omega (arith, s.room, r.few, small.1);
        few = let small = level_low t.shape s.shape level u.root (body_at at level u.root) u.next s.sound s.some (distinct_front own (mine ++ rest) s.distinct) (all_front (λ n. n < u.next) own (mine ++ rest) s.low) (omega (arith, s.room)) in omega (arith, s.few, r.few, small.1);
      }

      -- the other orphans stay as they were
      kept_rest : (j : ℕ) → is_among rest j ≡ true → after j ≡ at j
      kept_rest j h =
          let lt = among_all (λ n. n < u.next) (mine ++ rest) j low_orphans (in_rest j h) in
          look_unlisted u.nodes plan.parts j (unowned j (apart_lists own (mine ++ rest) j s.distinct (in_rest j h)) (not_new j lt))

      found_one : (item : Item) (k : ℕ) (y : Member k) → ((j : ℕ) → is_among (numbers_in k y) j ≡ true → after j ≡ at j) → IsFound at item k y → IsFound after item k y
      found_one (EntryOf z) zero y kept h = h
      found_one (EntryOf z) (suc k) y kept h = absurd h
      found_one (ChildOf c) zero y kept h = absurd h
      found_one (ChildOf c) (suc k) y kept h =
          let all_kept : AreKept at after (numbers k c.node (body_at at k c.node)) = among_from_all (λ j. after j ≡ at j) (numbers k c.node (body_at at k c.node)) (λ j m. kept j (subst (λ (b : Branch (Body k)). is_among (numbers_in (suc k) b) j ≡ true) (sym h.0) m)) in
          (h.0 ∙ sym (branch_kept at after k c all_kept), stands_kept at after k c.node all_kept h.1)

      found_all : (top : ℕ) (fs : List Found) (qs : List Orphan) → ((j : ℕ) → is_among (orphan_numbers qs) j ≡ true → after j ≡ at j) → AreFound at top fs qs → AreFound after top fs qs
      found_all top [] [] kept h = tt
      found_all top [] (q ∷ qs) kept h = absurd h
      found_all top (f ∷ fs) [] kept h = absurd h
      found_all top (f ∷ fs) (q ∷ qs) kept h = (
        h.0,
        found_one f.member q.level q.member (λ j m. kept j (list_any-append (nat_eq j) (numbers_in q.level q.member) (orphan_numbers qs) ∙ ap (λ (b : Bool). b || is_among (orphan_numbers qs) j) m)) h.1,
        found_all top fs qs (λ j m. kept j (list_any-append (nat_eq j) (numbers_in q.level q.member) (orphan_numbers qs) ∙ ap (λ (b : Bool). is_among (numbers_in q.level q.member) j || b) m ∙ or_true (is_among (numbers_in q.level q.member) j))) h.2,
      )
        where
          or_true : (b : Bool) → (b || true) ≡ true
          or_true true = refl
          or_true false = refl

      pub found_after : (top : ℕ) (fs : List Found) → AreFound at top fs os → AreFound after top fs os
      found_after top fs h = found_all top fs os kept_rest h

-- the plan is taken
pub at_taken : (o : Overlay) (plan : Plan) → look (with_parts (table_of o).nodes plan.parts) ≡ at_of (with_plan o plan)
at_taken o plan = λ i q. same q i
  where
    same : (q : ℕ) → look (with_parts (table_of o).nodes plan.parts) q ≡ at_of (with_plan o plan) q
    same q =
        look_parts (table_of o).nodes plan.parts q ∙ ap (part_at plan.parts q) (look_parts o.before.nodes o.plan.parts q) ∙ sym (part_at_all o.plan.parts plan.parts q (look o.before.nodes q)) ∙ sym (look_parts o.before.nodes (all_renewed o.plan.parts plan.parts) q)

module _ (e : Entry) (o : Overlay) (f : Found) (fs : List Found) (raised : ℕ) where
  -- it goes a few steps down
  pub few_steps : Ready e o (f ∷ fs) raised → f.depth + raised ≤ 65
  few_steps r = by_list r.orphans r.stage r.found
    where
      by_list : (os : List Orphan) → IsStage o.before e (at_of o) o.plan.root o.plan.next r.level os → AreFound (at_of o) r.top (f ∷ fs) os → f.depth + raised ≤ 65
      by_list [] s h = absurd h
      by_list (x ∷ os) s h =
          let own = numbers r.level o.plan.root (body_at (at_of o) r.level o.plan.root) in
          let small = level_low o.before.shape s.shape r.level o.plan.root (body_at (at_of o) r.level o.plan.root) o.plan.next s.sound s.some (distinct_front own (orphan_numbers (x ∷ os)) s.distinct) (all_front (λ n. n < o.plan.next) own (orphan_numbers (x ∷ os)) s.low) (omega (arith, s.room)) in
          omega (arith, small.1, h.0, r.raised_is)

  -- the first orphan
  pub aims_first : Ready e o (f ∷ fs) raised → Aims (table_of o) f.member (f.depth + raised) o.plan.root
  aims_first r = by_list r.orphans r.stage r.found
    where
      by_list : (os : List Orphan) → IsStage o.before e (at_of o) o.plan.root o.plan.next r.level os → AreFound (at_of o) r.top (f ∷ fs) os → Aims (table_of o) f.member (f.depth + raised) o.plan.root
      by_list [] s h = absurd h
      by_list (x ∷ os) s h = aims o.before e (table_of o) r.level x os refl s f r.top raised h.0 r.raised_is h.1

  pub turn_goes :
      (r : Ready e o (f ∷ fs) raised) (plan : Plan) (raised' : ℕ) → ((a : Aims (table_of o) f.member (f.depth + raised) o.plan.root) → IsPart o.before.shape a.k a.x → Reached (table_of o) a.k a.x a.level plan) → Counts o.plan.root plan.root raised raised' → Goes e o (with_plan o plan) (f ∷ fs) fs raised raised' r
  turn_goes r plan raised' reaches counts = by_list r.orphans r.stage r.found refl refl
    where
      by_list : (os : List Orphan) (s : IsStage o.before e (at_of o) o.plan.root o.plan.next r.level os) (h : AreFound (at_of o) r.top (f ∷ fs) os) → r.orphans ≡ os → r.level ≡ r.level → Goes e o (with_plan o plan) (f ∷ fs) fs raised raised' r
      by_list [] s h is l = absurd h
      by_list (x ∷ os) s h is l = by_reach (reaches (aims o.before e (table_of o) r.level x os refl s f r.top raised h.0 r.raised_is h.1) s.parts.0) counts
        where
          goes : (level' : ℕ) → IsAfter (table_of o) x.level x.member r.level plan.parts plan.root plan.next level' → level' ≤ suc r.level → level' ≡ r.top + raised' → Goes e o (with_plan o plan) (f ∷ fs) fs raised raised' r
          goes level' a up up_is = record {
            then = record {
              level = level';
              top = r.top;
              orphans = os;
              stage = subst (λ (at : ℕ → Option Node). IsStage o.before e at plan.root plan.next level' os) (at_taken o plan) (stage_after o.before e (table_of o) r.level x os refl s plan level' a up);
              found = subst (λ (at : ℕ → Option Node). AreFound at r.top fs os) (at_taken o plan) (found_after o.before e (table_of o) r.level x os refl s plan level' a up r.top fs h.2);
              raised_is = up_is;
            };
            same = refl;
            onward = λ m i. subst (λ (qs : List Orphan). Inserts o.before.shape qs (nest_of o r.level) m) (sym is) (nest_of (with_plan o plan) level', subst (λ (at : ℕ → Option Node). IsInserted o.before.shape x.level x.member (nest_of o r.level) (nest level' plan.root plan.next (body_at at level' plan.root))) (at_taken o plan) a.inserted, i);
          }

          by_reach : Reached (table_of o) x.level x.member r.level plan → Counts o.plan.root plan.root raised raised' → Goes e o (with_plan o plan) (f ∷ fs) fs raised raised' r
          by_reach (whole same a) (stays same_root c) = goes r.level a (omega arith) (omega (arith, r.raised_is, c))
          by_reach (whole same a) (rises other c) = absurd (other same)
          by_reach (split other a) (stays same c) = absurd (other same)
          by_reach (split other a) (rises other_root c) = goes (suc r.level) a (omega arith) (omega (arith, r.raised_is, c))

pub goes_along : (e : Entry) (o o' o'' : Overlay) (fs fs' fs'' : List Found) (n n' n'' : ℕ) (r : Ready e o fs n) (g : Goes e o o' fs fs' n n' r) → Goes e o' o'' fs' fs'' n' n'' g.then → Goes e o o'' fs fs'' n n'' r
goes_along e o o' o'' fs fs' fs'' n n' n'' r g h = record {
  then = h.then;
  same = h.same ∙ g.same;
  onward = λ m i. g.onward m (subst (λ (t : Table). Inserts t.shape g.then.orphans (nest_of o' g.then.level) m) g.same (h.onward m (subst (λ (t : Table). Inserts t.shape h.then.orphans (nest_of o'' h.then.level) m) (sym g.same) i)));
}

pub goes_nowhere : (e : Entry) (o : Overlay) (fs : List Found) (n : ℕ) (r : Ready e o fs n) → Goes e o o fs fs n n r
goes_nowhere e o fs n r = record { then = r; same = refl; onward = λ m i. i }
