-- What a session has planned stays, where marks change on entries that it doesn't hold, and where it holds what it held.
use Rattle.std.proofs.Common.{◌≡◌, ◌⊎◌, ℕ, zero, suc, ◌<◌, ◌≤◌, Bool, true, false, IsTrue, ◌&&◌, List, [], ◌∷◌, ◌++◌, Some, map, filter, nat_eq, refl, sym, ap, ap₂, ◌∙◌, subst, inl, inr, arith}
use Rattle.sp_split.specs.Split.{Splits}
use Rattle.sp_grow.proofs.Settled.{map-pick}
use Rattle.std.proofs.lemmas.List.{length-map, map-append}
use Rattle.sp_rect.specs.Plane.{Rectangle, Point, holds}
use Rattle.sp_rect.specs.Inside.{bound_of}
use Rattle.sp_node.specs.declared.node.Entry.{Entry}
use Rattle.sp_node.specs.declared.node.Shape.{Shape}
use Rattle.sp_node.specs.Among.{Among}
use Rattle.sp_node.specs.Change.{table_with, Keeps}
use Rattle.sp_node.specs.Look.{look}
use Rattle.sp_node.specs.Nested.{Body, Branch, Place, rects}
use Rattle.sp_node.specs.Table.{Table, body_at, level_of, places_of, entries_of}
use Rattle.sp_node.proofs.Changed.{member_with, body_with, place_with, places_of_with, entries_of_with, valid_with, ascending_with, rects_with, body_at_with, look_with, level_with}
use Rattle.sp_grow.specs.Chosen.{IsChosen, Reaches, ReachesOf}
use Rattle.sp_grow.specs.Insertion.{Outcome, one, two, with_outcome, IsNode, Settles, Grows, here, below}
use Rattle.sp_grow.specs.Members.{pick}
use Rattle.sp_grow.specs.Grown.{IsGrown, IsRoot}
use Rattle.sp_granule.specs.Granules.{Granule, Standing, standing, granule, granule_of_node, granules}
use Rattle.sp_list.specs.Emptiness.{is_empty}
use Rattle.sp_rect.specs.declared.record.Record.{Record}
use Rattle.sp_rect.specs.declared.operation.Op.{Op}
use Rattle.sp_rect.specs.declared.operation.Op.TheVariants.{Put, Drop, Set, Get, Find, Fill, Clear}
use Rattle.sp_rect.specs.Store.{Id, part_of, within}
use Rattle.sp_locks.specs.declared.mode.Mode.{Mode}
use Rattle.sp_locks.specs.declared.mode.Mode.TheVariants.{X}
use Rattle.sp_locks.specs.declared.row.Duration.{Duration}
use Rattle.sp_locks.specs.declared.row.Duration.TheVariants.{Commit, Short}
use Rattle.sp_locks.specs.declared.row.Name.{Name}
use Rattle.sp_locks.specs.declared.row.Name.TheVariants.{Object}
use Rattle.sp_locks.specs.declared.needs.Need.{Need}
use Rattle.sp_txn.specs.Visible.{is_visible, record_for, view}
use Rattle.sp_protection.specs.Effects.{fresh}
use Rattle.sp_protection.specs.Needs.{MarksId, StandsIn, StayWant, PutWant, ShortWant, IsJoined, AreNeedsOf}
use Rattle.sp_protection.proofs.Choice.{same}
use Rattle.sp_protection.proofs.Leaves.{among_map, from_map}
use Rattle.sp_protection.proofs.Rearranging.{of_id, within-shown}
use Rattle.sp_protection.proofs.Runs.{within-sorted}
use Rattle.sp_model.specs.declared.session.Session.{Session}
use Rattle.sp_model.specs.declared.session.Stage.{Stage}
use Rattle.sp_model.specs.declared.session.Stage.TheVariants.{Idle, Started, NameWait, Named, NeedWait, Planned, Queued, Placed}
use Rattle.sp_model.specs.State.{Kernel, entries_in}
use Rattle.sp_model.specs.Plans.{adds, IsInserted, HasNeeds, Stays, Adds, is_held}
use Rattle.sp_model.specs.Soundness.{HoldsObject, AwaitsObject, is_met, IsPlanned, HoldsStage}
use Rattle.sp_model.proofs.Holding.{StayMet, met-held, held-stays, met-stays, object-stays}

module _ (change : Entry → Entry) (keeps : Keeps change) where
  pub standing_same : (e : Entry) → standing (change e) ≡ standing e
  standing_same e = λ i. record { number = keeps.number e i; id = keeps.id e i; rect = keeps.rect e i }

  standings_same : (es : List Entry) → map standing (map change es) ≡ map standing es
  standings_same [] = refl
  standings_same (e ∷ es) = λ i. standing_same e i ∷ standings_same es i

  holes_same : (level : ℕ) (bs : List (Branch (Body level))) → map (λ b. b.rect) (map (member_with change (suc level)) bs) ≡ map (λ b. b.rect) bs
  holes_same level [] = refl
  holes_same level (b ∷ bs) = ap (λ (rs : List Rectangle). b.rect ∷ rs) (holes_same level bs)

  node_same : (level number : ℕ) (space : Rectangle) (body : Body level) → granule_of_node level number space (body_with change level body) ≡ granule_of_node level number space body
  node_same zero number space es = ap (λ (xs : List Standing). record { number = number; is_leaf = true; space = space; holes = []; entries = xs }) (standings_same es)
  node_same (suc level) number space bs = ap (λ (rs : List Rectangle). record { number = number; is_leaf = false; space = space; holes = rs; entries = [] }) (holes_same level bs)

  granules_same : (ps : List Place) → map granule (map (place_with change) ps) ≡ map granule ps
  granules_same [] = refl
  granules_same (p ∷ ps) = λ i. node_same p.level p.number p.space p.body i ∷ granules_same ps i

  -- granules see no marks
  pub granules_with : (t : Table) → granules (table_with change t) ≡ granules t
  unfolding granules
  granules_with t = ap (map granule) (places_of_with change keeps t) ∙ granules_same (places_of t)

  -- what is left of a node, with its entries changed
  abbrev branch_with : (level : ℕ) → Branch (Body level) → Branch (Body level)
  branch_with level b = member_with change (suc level) b

  abbrev outcome_with : (level : ℕ) → Outcome (Body level) → Outcome (Body level)
  outcome_with level (one a) = one (branch_with level a)
  outcome_with level (two a b) = two (branch_with level a) (branch_with level b)

  node_with : (level : ℕ) (b : Branch (Body level)) (number : ℕ) (members : Body level) → IsNode level b number members → IsNode level (branch_with level b) number (body_with change level members)
  node_with level b number members h = record {
    named = h.named;
    has = ap (body_with change level) h.has;
    bounds = ap bound_of (rects_with change keeps level b.body) ∙ h.bounds;
  }

  settles_with : (shape : Shape) (level number next : ℕ) (members : Body level) (outcome : Outcome (Body level)) (next' : ℕ) → Settles shape level number next members outcome next' → Settles shape level number next (body_with change level members) (outcome_with level outcome) next'
  settles_with shape level number next members (one a) next' h = (subst (λ n. n ≤ shape.max) (sym (length-map members (member_with change level))) h.0, node_with level a number members h.1, h.2)
  settles_with shape level number next members (two a b) next' h = (
    h.0,
    h.1,
    subst (λ n. shape.max < n) (sym (length-map members (member_with change level))) h.2,
    subst (λ (rs : List Rectangle). Splits rs shape.min h.0 h.1) (sym (rects_with change keeps level members)) h.3,
    subst (λ (m : Body level). IsNode level (branch_with level a) number m) (map-pick (member_with change level) members h.0) (node_with level a number (pick members h.0) h.4),
    subst (λ (m : Body level). IsNode level (branch_with level b) next m) (map-pick (member_with change level) members h.1) (node_with level b next (pick members h.1) h.5),
    h.6,
  )

  put_with : (level : ℕ) (front : List (Branch (Body level))) (outcome : Outcome (Body level)) (back : List (Branch (Body level))) → map (branch_with level) (with_outcome front outcome back) ≡ with_outcome (map (branch_with level) front) (outcome_with level outcome) (map (branch_with level) back)
  put_with level front (one a) back = map-append (branch_with level) front (a ∷ back)
  put_with level front (two a b) back = map-append (branch_with level) front (a ∷ (back ++ b ∷ [])) ∙ ap (λ (bs : List (Branch (Body level))). map (branch_with level) front ++ branch_with level a ∷ bs) (map-append (branch_with level) back (b ∷ []))

  chosen_with : (level : ℕ) (front : List (Branch (Body level))) (rect : Rectangle) (back : List (Branch (Body level))) (q : Rectangle) → IsChosen (rects (suc level) front) rect (rects (suc level) back) q → IsChosen (rects (suc level) (map (branch_with level) front)) rect (rects (suc level) (map (branch_with level) back)) q
  chosen_with level front rect back q h =
      subst (λ (rs : List Rectangle). IsChosen rs rect (rects (suc level) (map (branch_with level) back)) q) (sym (rects_with change keeps (suc level) front))
      (subst (λ (rs : List Rectangle). IsChosen (rects (suc level) front) rect rs q) (sym (rects_with change keeps (suc level) back)) h)

  grows_with : (shape : Shape) (e : Entry) (level number next : ℕ) (body : Body level) (outcome : Outcome (Body level)) (next' : ℕ) → Grows shape 0 e level number next body outcome next' → Grows shape 0 (change e) level number next (body_with change level body) (outcome_with level outcome) next'
  grows_with shape e level number next es outcome next' (here h) =
      here (subst (λ (m : List Entry). Settles shape zero number next m (outcome_with zero outcome) next') (map-append change es (e ∷ [])) (settles_with shape zero number next (es ++ e ∷ []) outcome next' h))
  grows_with shape e (suc level) number next branches outcome next' (below front b back under mid split chosen grows settles) =
      below (map (branch_with level) front) (branch_with level b) (map (branch_with level) back) (outcome_with level under) mid
      (ap (map (branch_with level)) split ∙ map-append (branch_with level) front (b ∷ back))
      (subst (λ (q : Rectangle). IsChosen (rects (suc level) (map (branch_with level) front)) b.rect (rects (suc level) (map (branch_with level) back)) q) (sym (keeps.rect e)) (chosen_with level front b.rect back e.rect chosen))
      (grows_with shape e level b.number next b.body under mid grows)
      (subst (λ (m : Body (suc level)). Settles shape (suc level) number mid m (outcome_with (suc level) outcome) next') (put_with level front under back) (settles_with shape (suc level) number mid (with_outcome front under back) outcome next' settles))

  reaches_with : (level number : ℕ) (body : Body level) (q : Rectangle) (leaf : ℕ) → Reaches level number body q leaf → Reaches level number (body_with change level body) q leaf
  reaches_with zero number es q leaf h = h
  reaches_with (suc level) number branches q leaf (front, b, back, split, chosen, reaches) = (
    map (branch_with level) front,
    branch_with level b,
    map (branch_with level) back,
    ap (map (branch_with level)) split ∙ map-append (branch_with level) front (b ∷ back),
    chosen_with level front b.rect back q chosen,
    reaches_with level b.number b.body q leaf reaches,
  )

  body_is : (t : Table) (level number : ℕ) → body_at (look (table_with change t).nodes) level number ≡ body_with change level (body_at (look t.nodes) level number)
  body_is t = body_at_with change (look t.nodes) (look (table_with change t).nodes) (look_with change t.nodes)

  pub leads_with : (t : Table) (q : Rectangle) (leaf : ℕ) → ReachesOf t q leaf → ReachesOf (table_with change t) q leaf
  leads_with t q leaf h =
      subst (λ (l : ℕ). Reaches l t.root (body_at (look (table_with change t).nodes) l t.root) q leaf) (sym (level_with change keeps t))
      (subst (λ (b : Body (level_of t)). Reaches (level_of t) t.root b q leaf) (sym (body_is t (level_of t) t.root)) (reaches_with (level_of t) t.root (body_at (look t.nodes) (level_of t) t.root) q leaf h))

  root_with : (level : ℕ) (outcome : Outcome (Body level)) (next : ℕ) (t : Table) → IsRoot level outcome next t → IsRoot level (outcome_with level outcome) next (table_with change t)
  root_with level (one a) next t h = (h.0, h.1, level_with change keeps t ∙ h.2, body_is t level t.root ∙ ap (body_with change level) h.3)
  root_with level (two a b) next t h = (h.0, h.1, level_with change keeps t ∙ h.2, body_is t (suc level) t.root ∙ ap (body_with change (suc level)) h.3)

  -- a tree with changed marks grows by the entry with changed marks as the tree does
  pub grown_with : (t : Table) (e : Entry) (t' : Table) → IsGrown t e t' → IsGrown (table_with change t) (change e) (table_with change t')
  grown_with t e t' h =
      subst (λ (l : ℕ). (outcome : Outcome (Body l)) (next : ℕ) → Grows t.shape 0 (change e) l t.root t.next (body_at (look (table_with change t).nodes) l t.root) outcome next → IsRoot l outcome next (table_with change t') → IsGrown (table_with change t) (change e) (table_with change t'))
      (level_with change keeps t)
      (λ outcome next grows root. record { outcome = outcome; next = next; grows = grows; root = root; shape = h.shape })
      (outcome_with (level_of t) h.outcome) h.next
      (subst (λ (b : Body (level_of t)). Grows t.shape 0 (change e) (level_of t) t.root t.next b (outcome_with (level_of t) h.outcome) h.next) (sym (body_is t (level_of t) t.root))
      (grows_with t.shape e (level_of t) t.root t.next (body_at (look t.nodes) (level_of t) t.root) h.outcome h.next h.grows))
      (root_with (level_of t) h.outcome h.next t' h.root)

-- two rules that want the same have the same needs
joined_alike : (Want Want' : Name → Mode → Type 0) → ((n : Name) (m : Mode) → Want n m → Want' n m) → ((n : Name) (m : Mode) → Want' n m → Want n m) → (name : Name) (mode : Mode) → IsJoined Want name mode → IsJoined Want' name mode
joined_alike Want Want' to back name mode h = record {
  some = (h.some.0, to name h.some.0 h.some.1);
  enough = λ m w. h.enough m (back name m w);
  least = λ m f. h.least m (λ n w. f n (to name n w));
}

pub needs_alike : (Want Want' : Name → Mode → Type 0) → ((n : Name) (m : Mode) → Want n m → Want' n m) → ((n : Name) (m : Mode) → Want' n m → Want n m) → (duration : Duration) (needs : List Need) → AreNeedsOf Want duration needs → AreNeedsOf Want' duration needs
needs_alike Want Want' to back duration needs h = record {
  joined = λ need i. (joined_alike Want Want' to back need.name need.mode (h.joined need i).0, (h.joined need i).1);
  all = λ name mode j. h.all name mode (joined_alike Want' Want back to name mode j);
  in_order = h.in_order;
}

-- the operation of the transaction sees no change of marks at its object, and its new entry would have none
pub record LeavesSight (change : Entry → Entry) (es : List Entry) (txn : ℕ) (op : Op) : Type 0 where
  pub keeps : Keeps change
  pub sight : (id : ℕ) (e : Entry) → part_of op ≡ Id id → Among e es → e.id ≡ id → is_visible txn (change e) ≡ is_visible txn e
  pub new : (r : Record) (number : ℕ) → change (fresh txn number r) ≡ fresh txn number r

marks_part : (op : Op) (id : ℕ) → MarksId op id → part_of op ≡ Id id
marks_part (Put r) id h = absurd h
marks_part (Drop i) id h = ap Id h
marks_part (Set i value) id h = ap Id h
marks_part (Get i) id h = absurd h
marks_part (Find rect) id h = absurd h
marks_part (Fill rect value) id h = absurd h
marks_part (Clear rect) id h = absurd h

module _ (change : Entry → Entry) (es : List Entry) (txn : ℕ) (op : Op) (leaves : LeavesSight change es txn op) (gs : List Granule) where
  stands_with : (e : Entry) (g : Granule) → StandsIn e g → StandsIn (change e) g
  stands_with e g h = (h.0, subst (λ (s : Standing). Among s g.entries) (sym (standing_same change leaves.keeps e)) h.1)

  stands_back : (e : Entry) (g : Granule) → StandsIn (change e) g → StandsIn e g
  stands_back e g h = (h.0, subst (λ (s : Standing). Among s g.entries) (standing_same change leaves.keeps e) h.1)

  want_with : (name : Name) (mode : Mode) → StayWant gs es txn op name mode → StayWant gs (map change es) txn op name mode
  want_with name mode (StayWant.Finds rect g is i meets) = StayWant.Finds rect g is i meets
  want_with name mode (StayWant.MarksOne id e g marks i seen is j stands) =
      StayWant.MarksOne id (change e) g marks (among_map change e es i) (leaves.sight id e (marks_part op id marks) i is ∙ seen) (leaves.keeps.id e ∙ is) j (stands_with e g stands)
  want_with name mode (StayWant.MarksLeaf rect e g area i meets j stands) =
      StayWant.MarksLeaf rect (change e) g area (among_map change e es i) (subst (λ (q : Rectangle). (p : Point) × IsTrue (holds q p) × IsTrue (holds rect p)) (sym (leaves.keeps.rect e)) meets) j (stands_with e g stands)
  want_with name mode (StayWant.MarksRegion rect g area i meets) = StayWant.MarksRegion rect g area i meets
  want_with name mode (StayWant.MarksObject rect e area i meets) =
      subst (λ (n : ℕ). StayWant gs (map change es) txn op (Object n) X) (leaves.keeps.id e)
      (StayWant.MarksObject rect (change e) area (among_map change e es i) (subst (λ (q : Rectangle). (p : Point) × IsTrue (holds q p) × IsTrue (holds rect p)) (sym (leaves.keeps.rect e)) meets))

  want_back : (name : Name) (mode : Mode) → StayWant gs (map change es) txn op name mode → StayWant gs es txn op name mode
  want_back name mode (StayWant.Finds rect g is i meets) = StayWant.Finds rect g is i meets
  want_back name mode (StayWant.MarksOne id z g marks i seen is j stands) =
      let r = from_map change z es i in
      let at : r.0.id ≡ id = sym (leaves.keeps.id r.0) ∙ ap (λ (y : Entry). y.id) r.2 ∙ is in
      StayWant.MarksOne id r.0 g marks r.1 (sym (leaves.sight id r.0 (marks_part op id marks) r.1 at) ∙ ap (is_visible txn) r.2 ∙ seen) at j (stands_back r.0 g (subst (λ (y : Entry). StandsIn y g) (sym r.2) stands))
  want_back name mode (StayWant.MarksLeaf rect z g area i meets j stands) =
      let r = from_map change z es i in
      StayWant.MarksLeaf rect r.0 g area r.1 (subst (λ (q : Rectangle). (p : Point) × IsTrue (holds q p) × IsTrue (holds rect p)) (ap (λ (y : Entry). y.rect) (sym r.2) ∙ leaves.keeps.rect r.0) meets) j (stands_back r.0 g (subst (λ (y : Entry). StandsIn y g) (sym r.2) stands))
  want_back name mode (StayWant.MarksRegion rect g area i meets) = StayWant.MarksRegion rect g area i meets
  want_back name mode (StayWant.MarksObject rect z area i meets) =
      let r = from_map change z es i in
      subst (λ (n : ℕ). StayWant gs es txn op (Object n) X) (sym (leaves.keeps.id r.0) ∙ ap (λ (y : Entry). y.id) r.2)
      (StayWant.MarksObject rect r.0 area r.1 (subst (λ (q : Rectangle). (p : Point) × IsTrue (holds q p) × IsTrue (holds rect p)) (ap (λ (y : Entry). y.rect) (sym r.2) ∙ leaves.keeps.rect r.0) meets))

  -- whether the transaction sees a record of the object does not change
  abbrev EmptyAlike : ℕ → List Entry → Type 0
  EmptyAlike id xs = is_empty (map (record_for txn) (filter (of_id (is_visible txn) id) (map change xs))) ≡ is_empty (map (record_for txn) (filter (of_id (is_visible txn) id) xs))

  empty_alike : (id : ℕ) → part_of op ≡ Id id → (xs : List Entry) → ((e : Entry) → Among e xs → Among e es) → EmptyAlike id xs
  empty_alike id is [] part = refl
  empty_alike id is (e ∷ xs) part = at (nat_eq e.id id) refl (empty_alike id is xs (λ x i. part x (inr i)))
    where
      named : nat_eq (change e).id id ≡ nat_eq e.id id
      named = ap (λ (n : ℕ). nat_eq n id) (leaves.keeps.id e)

      none : (a b : Bool) → b ≡ false → (a && b) ≡ false
      none a b h = grind arith

      by : (b : Bool) → of_id (is_visible txn) id (change e) ≡ b → of_id (is_visible txn) id e ≡ b → EmptyAlike id xs → EmptyAlike id (e ∷ xs)
      by true h k rest = rw (h, k) refl
      by false h k rest = rw (h, k) rest

      at : (b : Bool) → nat_eq e.id id ≡ b → EmptyAlike id xs → EmptyAlike id (e ∷ xs)
      at true k rest = by (of_id (is_visible txn) id e) (ap₂ (λ (a b : Bool). a && b) (leaves.sight id e is (part e (inl refl)) (same e.id id k)) named) refl rest
      at false k rest = by false (none (is_visible txn (change e)) (nat_eq (change e).id id) (named ∙ k)) (none (is_visible txn e) (nat_eq e.id id) k) rest

  adds_with : adds op (view (map change es) txn) ≡ adds op (view es txn)
  adds_with = go op refl
    where
      shown : (id : ℕ) (xs : List Entry) → within (Id id) (view xs txn) ≡ map (record_for txn) (filter (of_id (is_visible txn) id) xs)
      shown id xs = within-sorted id (map (record_for txn) (filter (is_visible txn) xs)) ∙ within-shown (is_visible txn) (record_for txn) id xs (λ e. refl)

      go : (o : Op) → op ≡ o → adds o (view (map change es) txn) ≡ adds o (view es txn)
      go (Put r) is = ap is_empty (shown r.id (map change es)) ∙ empty_alike r.id (ap part_of is) es (λ e i. i) ∙ sym (ap is_empty (shown r.id es))
      go (Drop id) is = refl
      go (Set id value) is = refl
      go (Get id) is = refl
      go (Find rect) is = refl
      go (Fill rect value) is = refl
      go (Clear rect) is = refl

-- the marks change, and nothing else of the tree
pub record MarksChange (change : Entry → Entry) (k k' : Kernel) : Type 0 where
  pub tree : k'.tree ≡ table_with change k.tree
  pub next_entry : k'.next_entry ≡ k.next_entry

pub same_granules : (change : Entry → Entry) (k k' : Kernel) → Keeps change → MarksChange change k k' → granules k'.tree ≡ granules k.tree
same_granules change k k' keeps marks = ap granules marks.tree ∙ granules_with change keeps k.tree

pub changed_entries : (change : Entry → Entry) (k k' : Kernel) → Keeps change → MarksChange change k k' → entries_in k' ≡ map change (entries_in k)
changed_entries change k k' keeps marks = ap entries_of marks.tree ∙ entries_of_with change keeps k.tree

inserted_with : (change : Entry → Entry) (t : Table) (e : Entry) (t' : Table) → Keeps change → change e ≡ e → IsInserted t e t' → IsInserted (table_with change t) e (table_with change t')
inserted_with change t e t' keeps fixed h = record {
  grown = subst (λ (x : Entry). IsGrown (table_with change t) x (table_with change t')) fixed (grown_with change keeps t e t' h.grown);
  valid = valid_with change keeps t' h.valid;
  ascending = ascending_with change keeps t'.nodes h.ascending;
  same = λ f g i j n.
      let a = from_map change f (entries_of t) (subst (Among f) (entries_of_with change keeps t) i) in
      let b = from_map change g (entries_of t') (subst (Among g) (entries_of_with change keeps t') j) in
      sym a.2 ∙ ap change (h.same a.0 b.0 a.1 b.1 (sym (keeps.number a.0) ∙ ap (λ (x : Entry). x.number) a.2 ∙ n ∙ sym (ap (λ (x : Entry). x.number) b.2) ∙ keeps.number b.0)) ∙ b.2;
}

-- the needs of an operation stay under a change of marks that it doesn't see
pub needs_with : (change : Entry → Entry) (k k' : Kernel) (x : Session) (op : Op) (commit short : List Need) → MarksChange change k k' → LeavesSight change (entries_in k) x.txn.number op → HasNeeds k x op commit short → HasNeeds k' x op commit short
needs_with change k k' x _ _ _ marks leaves (Stays op commit none needs) =
    let gs = same_granules change k k' leaves.keeps marks in
    let es = changed_entries change k k' leaves.keeps marks in
    Stays op commit
    (ap (λ (zs : List Entry). adds op (view zs x.txn.number)) es ∙ adds_with change (entries_in k) x.txn.number op leaves (granules k.tree) ∙ none)
    (subst (λ (zs : List Entry). AreNeedsOf (StayWant (granules k'.tree) zs x.txn.number op) Commit commit) (sym es)
    (subst (λ (hs : List Granule). AreNeedsOf (StayWant hs (map change (entries_in k)) x.txn.number op) Commit commit) (sym gs)
    (needs_alike (StayWant (granules k.tree) (entries_in k) x.txn.number op) (StayWant (granules k.tree) (map change (entries_in k)) x.txn.number op)
    (want_with change (entries_in k) x.txn.number op leaves (granules k.tree)) (want_back change (entries_in k) x.txn.number op leaves (granules k.tree)) Commit commit needs)))
needs_with change k k' x _ _ _ marks leaves (Adds r after chosen commit short some inserts wanted wanted_short) =
    let gs = same_granules change k k' leaves.keeps marks in
    let es = changed_entries change k k' leaves.keeps marks in
    let hs = granules_with change leaves.keeps after in
    Adds r (table_with change after) chosen commit short
    (ap (λ (zs : List Entry). adds (Put r) (view zs x.txn.number)) es ∙ adds_with change (entries_in k) x.txn.number (Put r) leaves (granules k.tree) ∙ some)
    (record {
      inserted = subst (λ (t : Table). IsInserted t (fresh x.txn.number k'.next_entry r) (table_with change after)) (sym marks.tree)
          (subst (λ (n : ℕ). IsInserted (table_with change k.tree) (fresh x.txn.number n r) (table_with change after)) (sym marks.next_entry)
          (inserted_with change k.tree (fresh x.txn.number k.next_entry r) after leaves.keeps (leaves.new r k.next_entry) inserts.inserted));
      reaches = subst (λ (t : Table). ReachesOf t r.rect chosen) (sym marks.tree) (leads_with change leaves.keeps k.tree r.rect chosen inserts.reaches);
    })
    (subst (λ (a : List Granule). AreNeedsOf (PutWant a (granules (table_with change after)) x.txn.searches) Commit commit) (sym gs)
    (subst (λ (a : List Granule). AreNeedsOf (PutWant (granules k.tree) a x.txn.searches) Commit commit) (sym hs) wanted))
    (subst (λ (a : List Granule). AreNeedsOf (ShortWant a (granules (table_with change after)) (Some chosen)) Short short) (sym gs)
    (subst (λ (a : List Granule). AreNeedsOf (ShortWant (granules k.tree) a (Some chosen)) Short short) (sym hs) wanted_short))

-- the needs of an operation stay with the tree
pub needs_same : (k k' : Kernel) (x : Session) (op : Op) (commit short : List Need) → k'.tree ≡ k.tree → k'.next_entry ≡ k.next_entry → HasNeeds k x op commit short → HasNeeds k' x op commit short
needs_same k k' x _ _ _ tree next (Stays op commit none needs) =
    Stays op commit
    (ap (λ (t : Table). adds op (view (entries_of t) x.txn.number)) tree ∙ none)
    (subst (λ (t : Table). AreNeedsOf (StayWant (granules t) (entries_of t) x.txn.number op) Commit commit) (sym tree) needs)
needs_same k k' x _ _ _ tree next (Adds r after chosen commit short some inserts wanted wanted_short) =
    Adds r after chosen commit short
    (ap (λ (t : Table). adds (Put r) (view (entries_of t) x.txn.number)) tree ∙ some)
    (record {
      inserted = subst (λ (t : Table). IsInserted t (fresh x.txn.number k'.next_entry r) after) (sym tree) (subst (λ (n : ℕ). IsInserted k.tree (fresh x.txn.number n r) after) (sym next) inserts.inserted);
      reaches = subst (λ (t : Table). ReachesOf t r.rect chosen) (sym tree) inserts.reaches;
    })
    (subst (λ (t : Table). AreNeedsOf (PutWant (granules t) (granules after) x.txn.searches) Commit commit) (sym tree) wanted)
    (subst (λ (t : Table). AreNeedsOf (ShortWant (granules t) (granules after) (Some chosen)) Short short) (sym tree) wanted_short)

-- what is planned stays where its needs do and what the session holds
pub planned_from : (k k' : Kernel) (x : Session) (op : Op) (left : List Need) → ((commit short : List Need) → HasNeeds k x op commit short → HasNeeds k' x op commit short) → StayMet x.txn.session k.locks k'.locks → IsPlanned k x op left → IsPlanned k' x op left
planned_from k k' x op left needs stay h = record {
  commit = h.commit;
  short = h.short;
  needs = needs h.commit h.short h.needs;
  commit_met = λ need i. held need (h.commit_met need i);
  short_met = λ need i c. met need (h.short_met need i c);
  only = h.only;
  in_order = h.in_order;
}
  where
    held : (need : Need) → (is_held k.locks x.txn.session need ≡ true) ⊎ Among need left → (is_held k'.locks x.txn.session need ≡ true) ⊎ Among need left
    held need (inl m) = inl (held-stays x.txn.session k.locks k'.locks (met-held x.txn.session k.locks k'.locks stay) need m)
    held need (inr i) = inr i

    met : (need : Need) → (is_met k.locks x.txn.session need ≡ true) ⊎ Among need left → (is_met k'.locks x.txn.session need ≡ true) ⊎ Among need left
    met need (inl m) = inl (met-stays x.txn.session k.locks k'.locks stay need m)
    met need (inr i) = inr i

-- what a session holds by its stage stays where the needs of what it has planned do and its locks
pub stage_from : (k k' : Kernel) (x : Session) (stage : Stage) → ((op : Op) (left commit short : List Need) → stage ≡ Planned op left → HasNeeds k x op commit short → HasNeeds k' x op commit short) → StayMet x.txn.session k.locks k'.locks → ((op : Op) → AwaitsObject k.locks x.txn.session op → AwaitsObject k'.locks x.txn.session op) → HoldsStage k x stage → HoldsStage k' x stage
stage_from k k' x stage needs stay awaits h = go stage needs h
  where
    object : (op : Op) → HoldsObject k.locks x.txn.session op → HoldsObject k'.locks x.txn.session op
    object op = object-stays x.txn.session k.locks k'.locks (met-held x.txn.session k.locks k'.locks stay) op

    go : (at : Stage) → ((op : Op) (left commit short : List Need) → at ≡ Planned op left → HasNeeds k x op commit short → HasNeeds k' x op commit short) → HoldsStage k x at → HoldsStage k' x at
    go Idle n l = tt
    go (Started op) n l = tt
    go (NameWait op) n l = awaits op l
    go (Named op) n l = object op l
    go (NeedWait op) n l = object op l
    go (Planned op left) n l = (object op l.0, planned_from k k' x op left (λ commit short. n op left commit short refl) stay l.1)
    go Queued n l = tt
    go Placed n l = tt

-- the same where the tree stays
pub stage_stays : (k k' : Kernel) (x : Session) (stage : Stage) → k'.tree ≡ k.tree → k'.next_entry ≡ k.next_entry → StayMet x.txn.session k.locks k'.locks → ((op : Op) → AwaitsObject k.locks x.txn.session op → AwaitsObject k'.locks x.txn.session op) → HoldsStage k x stage → HoldsStage k' x stage
stage_stays k k' x stage tree next = stage_from k k' x stage (λ op left commit short _. needs_same k k' x op commit short tree next)

-- the same where marks change that the operation doesn't see
pub stage_with : (change : Entry → Entry) (k k' : Kernel) (x : Session) (stage : Stage) → MarksChange change k k' → ((op : Op) (left : List Need) → stage ≡ Planned op left → LeavesSight change (entries_in k) x.txn.number op) → StayMet x.txn.session k.locks k'.locks → ((op : Op) → AwaitsObject k.locks x.txn.session op → AwaitsObject k'.locks x.txn.session op) → HoldsStage k x stage → HoldsStage k' x stage
stage_with change k k' x stage marks leaves = stage_from k k' x stage (λ op left commit short e. needs_with change k k' x op commit short marks (leaves op left e))
