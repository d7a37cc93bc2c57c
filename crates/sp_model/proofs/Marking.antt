-- An operation that adds no entry keeps a kernel sound: it reads what it guards, and marks what it owns.
use Rattle.std.proofs.Common.{◌≡◌, ◌≢◌, ◌⊎◌, ℕ, ◌<◌, ◌≤◌, Bool, true, false, cond, not, ◌&&◌, ◌||◌, List, [], ◌∷◌, ◌++◌, map, length, None, nat_eq, refl, sym, ap, ◌∙◌, subst, inl, inr, true≢false, arith}
use Rattle.std.proofs.lemmas.Bool.Decides.{nat_tests}
use Rattle.std.proofs.lemmas.List.{length-map}
use Rattle.sp_rect.specs.Store.{part_of, touches}
use Rattle.sp_rect.specs.declared.operation.Op.{Op}
use Rattle.sp_rect.specs.declared.operation.Op.TheVariants.{Put, Drop, Set, Get, Find, Fill, Clear}
use Rattle.sp_rect.specs.declared.operation.Reply.{Reply}
use Rattle.sp_locks.specs.declared.row.Row.{Row}
use Rattle.sp_locks.specs.declared.row.Scope.TheVariants.{ShortLocks}
use Rattle.sp_locks.specs.declared.needs.Need.{Need}
use Rattle.sp_locks.specs.declared.row.Duration.TheVariants.{Commit}
use Rattle.sp_locks.specs.Rows.{waiting_in}
use Rattle.sp_locks.specs.Table.{released}
use Rattle.sp_locks.proofs.Keeping.{release-sound}
use Rattle.sp_waits.proofs.Acyclic.{release_short-acyclic}
use Rattle.sp_node.specs.declared.node.Entry.{Entry}
use Rattle.sp_node.specs.Among.{Among}
use Rattle.sp_node.specs.Change.{Keeps, table_with}
use Rattle.sp_node.specs.Marks.{is_marked, is_made_by, is_ended_by, is_draft_of, is_committed, is_done, marked}
use Rattle.sp_node.specs.Table.{Table, entries_of}
use Rattle.sp_node.proofs.Changed.{valid_with, ascending_with, entries_of_with}
use Rattle.sp_granule.specs.Granules.{Granule, granules, standing}
use Rattle.sp_txn.specs.Visible.{is_visible, record_for, live, view}
use Rattle.sp_protection.specs.Holding.{Lock, AllCompatible}
use Rattle.sp_protection.specs.Guarding.{Owned, MarksOwned}
use Rattle.sp_protection.specs.Effects.{is_marking, is_changed, marks_by, marked_by, fresh, applied}
use Rattle.sp_protection.specs.Needs.{StayWant, AreNeedsOf}
use Rattle.sp_protection.specs.Replays.{Replays, HoldsPart, HoldsParts, LeavesMarks}
use Rattle.sp_protection.proofs.Applying.{applied-live, apply_replays, other_replays}
use Rattle.sp_protection.proofs.Commits.{locks_leave_marks}
use Rattle.sp_protection.proofs.Leaves.{among_map, from_map}
use Rattle.sp_protection.proofs.Marking.{marked-marked, operation_keeps_marks_owned}
use Rattle.sp_protection.proofs.Rules.{needs_guard, changed_owned}
use Rattle.sp_model.specs.declared.session.Session.{Session}
use Rattle.sp_model.specs.declared.session.Stage.{Stage}
use Rattle.sp_model.specs.declared.session.Stage.TheVariants.{Planned}
use Rattle.sp_model.specs.State.{Kernel, entries_in, is_active_stage, with_change, locks_of}
use Rattle.sp_model.specs.Refusals.{is_search, under_way}
use Rattle.sp_model.specs.Moves.{marked as marked_kernel}
use Rattle.sp_model.specs.Plans.{is_adding}
use Rattle.sp_model.specs.Stepped.{reply_of, PassesReplies, most_entries}
use Rattle.sp_model.specs.Soundness.{SharesLatch, HoldsStage, NumbersUsed, DeadListed, is_queued}
use Rattle.sp_model.proofs.Bare.{Bare}
use Rattle.sp_model.proofs.Sessions.{number-same, number-differ}
use Rattle.sp_model.proofs.Holding.{StayHeld, HoldsStill, met-held, released-others, released-short, locks-still, parts-still, part-still, marks_owned-still, locks-compatible}
use Rattle.sp_model.proofs.Released.{released-owned, released-names, released-awaits_object}
use Rattle.sp_model.proofs.Awake.{released-long}
use Rattle.sp_model.proofs.Planned.{LeavesSight, granules_with, stage_with}
use Rattle.sp_model.proofs.Restaging.{there-changed}
use Rattle.sp_model.proofs.Staging.{told}
use Rattle.sp_model.proofs.Endings.{numbers-other}
use Rattle.sp_model.proofs.Finishing.{planned-awake}
use Rattle.sp_model.proofs.Dying.{marks_keep, marks_alive}
use Rattle.sp_model.proofs.Operating.{done_with, done-keeps, kept-idle, with_done, FitsDone, done_with-sound}
use Rattle.sp_model.proofs.Ready.{part_held, named_held, stay_needs, nothing_enters, replies_fit, owned_done, ready, ready_space, ready_object, ready_commit}

unchanged : (t : ℕ) (op : Op) (e : Entry) → is_changed t op e ≡ false → marked_by t op e ≡ e
unchanged t op e h = ap (λ (b : Bool). cond b (marked (marks_by t op e.marks) e) e) h

-- a dead entry stays as it is
dead_same : (t : ℕ) (op : Op) (e : Entry) → is_done e.marks.ended ≡ true → marked_by t op e ≡ e
dead_same t op e dead = unchanged t op e (none (is_marking op) (is_committed e.marks.made) (is_made_by t e.marks.made) (is_ended_by t e.marks.ended) (is_done e.marks.ended) (touches (part_of op) (record_for t e)) dead)
  where
    none : (a c m x d b : Bool) → d ≡ true → (a && (((c || m) && not (x || d)) && b)) ≡ false
    none a c m x d b h = grind arith

-- a search marks nothing
search_same : (t : ℕ) (op : Op) (e : Entry) → is_search op ≡ true → marked_by t op e ≡ e
search_same t (Put r) e h = absurd (true≢false (sym h))
search_same t (Drop id) e h = absurd (true≢false (sym h))
search_same t (Set id value) e h = absurd (true≢false (sym h))
search_same t (Get id) e h = refl
search_same t (Find rect) e h = refl
search_same t (Fill rect value) e h = absurd (true≢false (sym h))
search_same t (Clear rect) e h = absurd (true≢false (sym h))

-- a transaction that the operation is not of comes on no entry by it
free_stays : (t u : ℕ) (op : Op) (e : Entry) → nat_eq t u ≡ false → (is_made_by u e.marks.made ≡ false) × (is_ended_by u e.marks.ended ≡ false) × (is_draft_of u e.marks.draft ≡ false)
    → (is_made_by u (marked_by t op e).marks.made ≡ false) × (is_ended_by u (marked_by t op e).marks.ended ≡ false) × (is_draft_of u (marked_by t op e).marks.draft ≡ false)
free_stays t u op e other free = go op (is_changed t op e)
  where
    Free : Entry → Type 0
    Free z = (is_made_by u z.marks.made ≡ false) × (is_ended_by u z.marks.ended ≡ false) × (is_draft_of u z.marks.draft ≡ false)

    go : (o : Op) (b : Bool) → (is_made_by u (cond b (marked (marks_by t o e.marks) e) e).marks.made ≡ false) × (is_ended_by u (cond b (marked (marks_by t o e.marks) e) e).marks.ended ≡ false) × (is_draft_of u (cond b (marked (marks_by t o e.marks) e) e).marks.draft ≡ false)
    go o false = free
    go (Put r) true = free
    go (Drop id) true = (free.0, other, free.2)
    go (Set id value) true = (free.0, free.1, other)
    go (Get id) true = free
    go (Find rect) true = free
    go (Fill rect value) true = (free.0, free.1, other)
    go (Clear rect) true = (free.0, other, free.2)

module _ (k : Kernel) (x : Session) (op : Op) (sound : Bare k) (here : Among x k.sessions) (at : x.stage ≡ Planned op []) (plain : is_adding k x op ≡ false) where
  abbrev s : ℕ
  s = x.txn.session

  abbrev t : ℕ
  t = x.txn.number

  abbrev es : List Entry
  es = entries_in k

  abbrev locks : List Lock
  locks = locks_of k.sessions k.locks

  abbrev reply : Reply
  reply = reply_of k x op

  abbrev tree : Table
  tree = table_with (marked_by t op) k.tree

  abbrev rows : List Row
  rows = released ShortLocks s k.locks

  abbrev xs : List Session
  xs = with_change s (done_with op reply) k.sessions

  abbrev k' : Kernel
  k' = with_done x op reply tree k.next_entry rows k

  keeps : Keeps (marked_by t op)
  keeps = marks_keep t op

  entries : entries_of tree ≡ map (marked_by t op) es
  entries = entries_of_with (marked_by t op) keeps k.tree

  as_applied : applied t k.next_entry op es ≡ map (marked_by t op) es
  as_applied = ap (λ (new : List Entry). new ++ map (marked_by t op) es) (nothing_enters t k.next_entry op (view es t) plain)

  of_entry : (e : Entry) → Among e (entries_of tree) → (o : Entry) × Among o es × (marked_by t op o ≡ e)
  of_entry e i = from_map (marked_by t op) e es (subst (Among e) entries i)

  quiet : waiting_in s k.locks ≡ None
  quiet = planned-awake k x op [] sound here at

  held : (u : ℕ) → StayHeld u k.locks rows
  held u = go (nat_eq u s) refl
    where
      go : (b : Bool) → nat_eq u s ≡ b → StayHeld u k.locks rows
      go true e = subst (λ (n : ℕ). StayHeld n k.locks rows) (sym (number-same u s e)) (released-short s k.locks)
      go false e = met-held u k.locks rows (released-others ShortLocks s u k.locks (number-differ u s e))

  still : (u : ℕ) → HoldsStill locks (locks_of xs rows) u
  still u = locks-still k.sessions xs k.locks rows u (there-changed s (done_with op reply) (done-keeps op reply) k.sessions u) (λ y i e. held y.txn.session)

  compatible : AllCompatible locks
  compatible = locks-compatible k.next_txn (length k.commits) k.sessions k.locks sound.sessions sound.locks

  abbrev commit : List Need
  commit = (ready k x op sound here at).1.commit

  needs : AreNeedsOf (StayWant (granules k.tree) es t op) Commit commit
  needs = stay_needs k x op commit (ready k x op sound here at).1.short plain (ready k x op sound here at).1.needs

  changes_owned : (e : Entry) → Among e es → is_changed t op e ≡ true → Owned (granules k.tree) locks t (standing e)
  changes_owned e = changed_owned k.tree locks t op commit e sound.valid (ready_space k x op sound here at) needs
      (ready_commit k x op sound here at) (named_held locks t op (ready_object k x op sound here at))

  leaves_marks : (y : Session) → Among y k.sessions → y.txn.session ≢ s → LeavesMarks t y.txn.number op es
  leaves_marks y i other = locks_leave_marks k.tree locks t y.txn.number op es compatible (numbers-other k x y sound here i other) sound.owned (λ e j c. (changes_owned e j c).object)

  -- another session has planned a search, and so is this a search
  sight : (y : Session) (o : Op) (left : List Need) → Among y k.sessions → y.txn.session ≢ s → y.stage ≡ Planned o left → LeavesSight (marked_by t op) es y.txn.number o
  sight y o left i other planned =
      let shares : SharesLatch (Planned op []) (Planned o left) =
      subst (λ (z : Stage). SharesLatch z (Planned o left)) at (subst (λ (z : Stage). SharesLatch x.stage z) planned (sound.latch x y here i (λ e. other (sym e)))) in
      record {
        keeps = keeps;
        sight = λ id e is j named. ap (is_visible y.txn.number) (search_same t op e shares.0);
        new = λ r n. search_same t op (fresh y.txn.number n r) shares.0;
      }

  stages : (y : Session) → Among y k.sessions → y.txn.session ≢ s → HoldsStage k' y y.stage
  stages y i other = stage_with (marked_by t op) k k' y y.stage (record { tree = refl; next_entry = refl }) (λ o left planned. sight y o left i other planned)
      (released-others ShortLocks s y.txn.session k.locks other) (λ o h. released-awaits_object ShortLocks s y.txn.session k.locks o other h) (sound.stages y i)

  gs : granules tree ≡ granules k.tree
  gs = granules_with (marked_by t op) keeps k.tree

  part : HoldsPart (granules k.tree) locks t (part_of op)
  part = part_held (granules k.tree) locks t op (ready_object k x op sound here at) (λ rect e. needs_guard k.tree es locks t op rect commit e (ready_space k x op sound here at rect e) needs (ready_commit k x op sound here at))

  owned : MarksOwned (granules tree) (locks_of xs rows) (entries_of tree)
  owned =
      subst (λ (hs : List Granule). MarksOwned hs (locks_of xs rows) (entries_of tree)) (sym gs)
      (subst (MarksOwned (granules k.tree) (locks_of xs rows)) (as_applied ∙ sym entries)
      (marks_owned-still (granules k.tree) locks (locks_of xs rows) (applied t k.next_entry op es) still
      (operation_keeps_marks_owned (granules k.tree) locks t k.next_entry op es changes_owned (λ e i. absurd (subst (Among e) (nothing_enters t k.next_entry op (view es t) plain) i)) sound.owned)))

  dead : DeadListed k.dead (entries_of tree)
  dead = subst (DeadListed k.dead) (sym entries) (record {
    once = sound.dead.once;
    there = λ e i d.
        let o = from_map (marked_by t op) e es i in
        subst (λ (n : ℕ). Among n k.dead) (sym (keeps.number o.0) ∙ ap (λ (z : Entry). z.number) o.2) (sound.dead.there o.0 o.1 (marks_alive t op o.0 (subst (λ (z : Entry). is_done z.marks.ended ≡ true) (sym o.2) d)).0);
    back = λ n i.
        let b = sound.dead.back n i in
        (marked_by t op b.0, among_map (marked_by t op) b.0 es b.1, keeps.number b.0 ∙ b.2, subst (λ (z : Entry). is_done z.marks.ended ≡ true) (sym (dead_same t op b.0 b.3)) b.3);
  })

  numbers : NumbersUsed k.next_txn (entries_of tree)
  numbers u e later i =
      let o = of_entry e i in
      subst (λ (z : Entry). (is_made_by u z.marks.made ≡ false) × (is_ended_by u z.marks.ended ≡ false) × (is_draft_of u z.marks.draft ≡ false)) o.2
      (free_stays t u op o.0 (unused t u k.next_txn (sound.sessions.used x here) later) (sound.numbers u o.0 later o.1))
    where
      unused : (t u next : ℕ) → t < next → next ≤ u → nat_eq t u ≡ false
      unused t u next a b = grind (arith, nat_tests)

  marks : (u : ℕ) (e : Entry) → Among e (entries_of tree) → is_marked u e ≡ true → (u ≡ t) ⊎ ((o : Entry) × Among o es × (is_marked u o ≡ true))
  marks u e i m = let o = of_entry e i in go o.0 o.1 (marked-marked u t op o.0 (subst (λ (z : Entry). is_marked u z ≡ true) (sym o.2) m))
    where
      go : (o : Entry) → Among o es → (is_marked u o ≡ true) ⊎ ((u ≡ t) × (is_changed t op o ≡ true)) → (u ≡ t) ⊎ ((o : Entry) × Among o es × (is_marked u o ≡ true))
      go o j (inl old) = inr (o, j, old)
      go o j (inr new) = inl new.0

  fits : (PassesReplies k x op → ⊥) → FitsDone k x op reply tree k.next_entry rows
  fits few = record {
    here = here;
    active = told (λ (z : Stage). is_active_stage z ≡ true) x at refl;
    unqueued = told (λ (z : Stage). is_queued z ≡ false) x at refl;
    one = told (λ (z : Stage). under_way z ≡ 1) x at refl;
    in_space = ready_space k x op sound here at;
    valid = valid_with (marked_by t op) keeps k.tree sound.valid;
    ascending = ascending_with (marked_by t op) keeps k.tree.nodes sound.ascending;
    entry_numbers = λ e i. let o = of_entry e i in subst (λ (n : ℕ). n < k.next_entry) (sym (keeps.number o.0) ∙ ap (λ (z : Entry). z.number) o.2) (sound.entry_numbers o.0 o.1);
    current = ap live (entries ∙ sym as_applied) ∙ applied-live t k.next_entry op es ∙ sound.current;
    locks = release-sound ShortLocks s k.locks sound.locks;
    acyclic = release_short-acyclic k.locks s sound.locks quiet sound.acyclic;
    owned_rows = owned_done x op reply k.sessions rows (released-owned ShortLocks s k.sessions k.locks sound.rows) (λ row i e. released-long s k.locks quiet row i e);
    names = released-names ShortLocks s k.tree.next k.locks sound.names;
    held = held;
    stages = stages;
    parts = λ y i other a. subst (λ (hs : List Granule). HoldsParts hs (locks_of xs rows) y.txn.number y.txn.ops) (sym gs) (parts-still (granules k.tree) locks (locks_of xs rows) y.txn.number y.txn.ops (still y.txn.number) (sound.parts y i a));
    own_parts = subst (λ (hs : List Granule). HoldsParts hs (locks_of xs rows) t x.txn.ops) (sym gs)
        (parts-still (granules k.tree) locks (locks_of xs rows) t x.txn.ops (still t) (sound.parts x here (told (λ (z : Stage). is_active_stage z ≡ true) x at refl)));
    part = subst (λ (hs : List Granule). HoldsPart hs (locks_of xs rows) t (part_of op)) (sym gs) (part-still (granules k.tree) locks (locks_of xs rows) t (part_of op) (still t) part);
    object = (ready k x op sound here at).0;
    owned = owned;
    replays = λ y i other a. subst (λ (zs : List Entry). Replays zs y.txn.number y.txn.ops) (as_applied ∙ sym entries)
        (other_replays t y.txn.number k.next_entry op es y.txn.ops (numbers-other k x y sound here i other) (leaves_marks y i other) (sound.replays y i a));
    own_replays = subst (λ (zs : List Entry). Replays zs t (x.txn.ops ++ record { op = op; reply = reply } ∷ [])) (as_applied ∙ sym entries)
        (apply_replays t k.next_entry op es x.txn.ops (sound.replays x here (told (λ (z : Stage). is_active_stage z ≡ true) x at refl)));
    marks = marks;
    numbers = numbers;
    dead = dead;
    replies = replies_fit k x op few sound.counts.replies;
    entries = subst (λ (zs : List Entry). length zs ≤ most_entries) (sym entries) (subst (λ (n : ℕ). n ≤ most_entries) (sym (length-map es (marked_by t op))) sound.counts.entries);
    node_numbers = sound.counts.node_numbers;
    next_few = sound.counts.entry_numbers;
  }

  pub marked-sound : (PassesReplies k x op → ⊥) → Bare (marked_kernel x op k)
  marked-sound few = subst (λ (zs : List Session). Bare (record (with_done x op reply tree k.next_entry rows k) { sessions = zs })) (sym (kept-idle s op reply k.sessions)) (done_with-sound k x op reply tree k.next_entry rows sound (fits few))
