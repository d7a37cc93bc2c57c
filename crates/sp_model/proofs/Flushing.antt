-- Commits that wait for the next batch, its calls, and the places that they take once it is on the disk.
use Rattle.std.proofs.Common.{◌≡◌, ◌≢◌, ◌⊎◌, ℕ, ◌+◌, ◌<◌, ◌≤◌, Bool, true, cond, List, [], ◌∷◌, ◌++◌, map, filter, length, nat_eq, Option, None, Some, refl, sym, ap, ◌∙◌, subst, inl, inr, true≢false, append_assoc, append-nil, arith}
use Rattle.std.specs.List.{IsDistinct, sum_by}
use Rattle.std.proofs.lemmas.List.{length-map}
use Rattle.std.proofs.lemmas.Map.Keys.{IsDistinct-tail}
use Rattle.sp_rect.specs.declared.operation.Answered.{Answered}
use Rattle.sp_locks.specs.declared.row.Row.{Row}
use Rattle.sp_locks.specs.declared.row.Scope.TheVariants.{AllRows}
use Rattle.sp_locks.specs.Table.{released}
use Rattle.sp_node.specs.declared.node.Entry.{Entry}
use Rattle.sp_node.specs.Among.{Among}
use Rattle.sp_node.specs.Marks.{settled}
use Rattle.sp_node.proofs.Among.{among_left, among_right, among_split}
use Rattle.sp_node.proofs.Changed.{valid_with, entries_of_with}
use Rattle.sp_granule.specs.Granules.{granules}
use Rattle.sp_protection.specs.Replays.{Replays, HoldsParts, HasRectangles}
use Rattle.sp_protection.proofs.Leaves.{among_map}
use Rattle.sp_model.specs.declared.session.Session.{Session}
use Rattle.sp_model.specs.declared.session.Stage.{Stage}
use Rattle.sp_model.specs.declared.session.Stage.TheVariants.{Idle, Started, NameWait, Named, NeedWait, Planned, Queued, Placed}
use Rattle.sp_model.specs.State.{Kernel, entries_in, is_active, is_active_stage, is_session, session_at, with_change, at_stage, staged, locks_of}
use Rattle.sp_model.specs.Refusals.{open_transactions, under_way, most_operations}
use Rattle.sp_model.specs.Moves.{dead_among, newly_dead, with_stage, placed_commit, at_place, placed_found, placed_each, placed_all, taken_off}
use Rattle.sp_model.specs.Stepped.{records_told}
use Rattle.sp_model.specs.Plans.{HasRectangle}
use Rattle.sp_model.specs.Soundness.{AreAscending, SoundSessions, RowsOwned, MayHave, HasOwner, SharesLatch, HoldsObject, HoldsStage, DeadListed, is_queued, QueueSound, OfStage}
use Rattle.sp_model.proofs.Bare.{Bare}
use Rattle.sp_model.proofs.Sessions.{one-session, found-among, none-among, changed-among, others-among, Fate, Changes, Stays, fate, of_change}
use Rattle.sp_model.proofs.Holding.{HoldsStill, rows-stay, met-held, locks-still, parts-still, marks_owned-still}
use Rattle.sp_model.proofs.Counting.{length-sum, share, change-sum}
use Rattle.sp_model.proofs.Restaging.{staged-keeps, placed-keeps, sessions-staged, sessions-changed, there-changed, latch-staged}
use Rattle.sp_model.proofs.Dead.{distinct-cons, distinct-out, distinct-append, distinct-empty, StayDead, stay_dead-map, dead_grows}
use Rattle.sp_model.proofs.Planned.{stage_stays}
use Rattle.sp_model.proofs.Leaving.{Ends, ends_sound}
use Rattle.sp_model.proofs.Left.{Left, left_released, counts_left}
use Rattle.sp_model.proofs.Settling.{settled-keeps, settled-done, settled-free, settled-others}
use Rattle.sp_model.proofs.Endings.{commit-replays, commit-sight, commit-serial, commit-current, commit-counted, length-push}

-- the dead list, the queue and the batch change, and nothing else
abbrev pub listed_anew : List ℕ → List ℕ → List ℕ → ℕ → Kernel → Kernel
listed_anew dead queue flight calls k = record k { dead = dead; queue = queue; flight = flight; calls = calls }

pub listed-sound : (k : Kernel) (dead queue flight : List ℕ) (calls : ℕ) → Bare k → DeadListed dead (entries_in k) → QueueSound k.sessions queue flight calls → Bare (listed_anew dead queue flight calls k)
listed-sound k dead queue flight calls sound listed queued = record {
  valid = sound.valid;
  ascending = sound.ascending;
  entry_numbers = sound.entry_numbers;
  base = sound.base;
  serial = sound.serial;
  current = sound.current;
  locks = sound.locks;
  acyclic = sound.acyclic;
  rows = sound.rows;
  names = sound.names;
  sessions = sound.sessions;
  latch = sound.latch;
  stages = λ x i. stage_stays k (listed_anew dead queue flight calls k) x x.stage refl refl (rows-stay x.txn.session k.locks k.locks (λ row j w. j)) (λ op h. h) (sound.stages x i);
  in_space = sound.in_space;
  rectangles = sound.rectangles;
  parts = sound.parts;
  objects = sound.objects;
  owned = sound.owned;
  replays = sound.replays;
  active = sound.active;
  numbers = sound.numbers;
  dead = listed;
  queued = queued;
  counts = record {
    transactions = sound.counts.transactions;
    endings = sound.counts.endings;
    operations = sound.counts.operations;
    history = sound.counts.history;
    replies = sound.counts.replies;
    entries = sound.counts.entries;
    node_numbers = sound.counts.node_numbers;
    entry_numbers = sound.counts.entry_numbers;
    txn_numbers = sound.counts.txn_numbers;
  };
}

-- the commits that wait become the batch
pub taken_off-sound : (k : Kernel) → Bare k → k.flight ≡ [] → k.queue ≢ [] → Bare (taken_off k)
taken_off-sound k sound none some = listed-sound k k.dead [] k.queue 1 sound sound.dead (record {
  once = subst (IsDistinct nat_eq) whole sound.queued.once;
  there = λ x i q. subst (Among x.txn.session) whole (sound.queued.there x i q);
  back = λ s i. sound.queued.back s (subst (Among s) (sym whole) i);
  calls_few = omega arith;
  begun = λ h. omega arith;
  none = λ h. absurd (some h);
})
  where
    whole : k.flight ++ k.queue ≡ k.queue ++ []
    whole = ap (λ (f : List ℕ). f ++ k.queue) none ∙ sym (append-nil k.queue)

-- a further call is made for the batch
pub written-sound : (k : Kernel) → Bare k → k.flight ≢ [] → k.calls < 3 → Bare (record k { calls = k.calls + 1 })
written-sound k sound some few = listed-sound k k.dead k.queue k.flight (k.calls + 1) sound sound.dead (record {
  once = sound.queued.once;
  there = sound.queued.there;
  back = sound.queued.back;
  calls_few = omega arith;
  begun = λ h. omega arith;
  none = λ h. absurd (some h);
})

-- the stage after a commit was asked shares the latch with any
shares_queued : (stage : Stage) → SharesLatch stage Queued
shares_queued Idle = tt
shares_queued (Started op) = tt
shares_queued (NameWait op) = tt
shares_queued (Named op) = tt
shares_queued (NeedWait op) = tt
shares_queued (Planned op left) = tt
shares_queued Queued = tt
shares_queued Placed = tt

-- the kernel with a commit that waits for the next batch
abbrev pub queued_up : Session → Kernel → Kernel
queued_up x k = record (with_stage x.txn.session Queued k) { queue = k.queue ++ x.txn.session ∷ [] }

module _ (k : Kernel) (x : Session) (sound : Bare k) (here : Among x k.sessions) (idle : x.stage ≡ Idle) where
  s : ℕ
  s = x.txn.session

  same : (y : Session) → Among y k.sessions → y.txn.session ≡ x.txn.session → y ≡ x
  same y i e = one-session k.sessions sound.sessions.ascending y x i here e

  idle-at : (y : Session) → Among y k.sessions → y.txn.session ≡ x.txn.session → y.stage ≡ Idle
  idle-at y i e = ap (λ (z : Session). z.stage) (same y i e) ∙ idle

  active-at : (y : Session) → Among y k.sessions → y.txn.session ≡ x.txn.session → is_active y ≡ true
  active-at y i e = ap is_active_stage (idle-at y i e)

  joining : QueueSound (staged x.txn.session Queued k.sessions) (k.queue ++ x.txn.session ∷ []) k.flight k.calls
  joining = record {
    once = subst (IsDistinct nat_eq) (sym longer) (distinct-append (k.flight ++ k.queue) (x.txn.session ∷ []) sound.queued.once (distinct-cons x.txn.session [] (λ i. i) distinct-empty) out);
    there = λ y i q. let o = of_change x.txn.session (at_stage Queued) k.sessions y i in subst (Among y.txn.session) (sym longer) (there o.old y o.stood o.how q);
    back = λ n i. back n (among_split n (k.flight ++ k.queue) (x.txn.session ∷ []) (subst (Among n) longer i));
    calls_few = sound.queued.calls_few;
    begun = sound.queued.begun;
    none = sound.queued.none;
  }
    where
      longer : k.flight ++ (k.queue ++ x.txn.session ∷ []) ≡ (k.flight ++ k.queue) ++ x.txn.session ∷ []
      longer = sym (append_assoc k.flight k.queue (x.txn.session ∷ []))

      unqueued : (y : Session) → Among y k.sessions → is_queued y.stage ≡ true → y.txn.session ≢ x.txn.session
      unqueued y i q e = true≢false (sym q ∙ ap is_queued (idle-at y i e))

      out : (n : ℕ) → Among n (k.flight ++ k.queue) → Among n (x.txn.session ∷ []) → ⊥
      out n i (inl e) = let b = sound.queued.back n i in unqueued b.0 b.1 b.3 (b.2 ∙ e)
      out n i (inr none) = none

      there : (z y : Session) → Among z k.sessions → Fate x.txn.session (at_stage Queued) z y → is_queued y.stage ≡ true → Among y.txn.session ((k.flight ++ k.queue) ++ x.txn.session ∷ [])
      there z _ j (Changes e) q = among_right z.txn.session (k.flight ++ k.queue) (x.txn.session ∷ []) (inl e)
      there z _ j (Stays e) q = among_left z.txn.session (k.flight ++ k.queue) (x.txn.session ∷ []) (sound.queued.there z j q)

      back : (n : ℕ) → Among n (k.flight ++ k.queue) ⊎ Among n (x.txn.session ∷ []) → (w : Session) × Among w (staged x.txn.session Queued k.sessions) × (w.txn.session ≡ n) × (is_queued w.stage ≡ true)
      back n (inl i) = let b = sound.queued.back n i in (b.0, others-among x.txn.session (at_stage Queued) k.sessions b.0 b.1 (unqueued b.0 b.1 b.3), b.2, b.3)
      back n (inr (inl e)) = (at_stage Queued x, changed-among x.txn.session (at_stage Queued) k.sessions x here refl, sym e, refl)
      back n (inr (inr none)) = absurd none

  k' : Kernel
  k' = queued_up x k

  sums : (f : Session → ℕ) → f (at_stage Queued x) ≤ f x → sum_by f (filter is_active (staged x.txn.session Queued k.sessions)) ≤ sum_by f (filter is_active k.sessions)
  sums f less = let c = change-sum f (at_stage Queued) k.sessions sound.sessions.ascending x here in let a = shared in omega (arith, c, a, less)
    where
      shared : share f x ≡ f x
      shared = ap (λ (b : Bool). cond b (f x) 0) (ap is_active_stage idle)

  still : (t : ℕ) → HoldsStill (locks_of k.sessions k.locks) (locks_of (staged x.txn.session Queued k.sessions) k.locks) t
  still t = locks-still k.sessions (staged x.txn.session Queued k.sessions) k.locks k.locks t (there-changed x.txn.session (at_stage Queued) (staged-keeps Queued) k.sessions t)
      (λ y i e. met-held y.txn.session k.locks k.locks (rows-stay y.txn.session k.locks k.locks (λ row j w. j)))

  stages : (z y : Session) → Among z k.sessions → Fate x.txn.session (at_stage Queued) z y → HoldsStage (queued_up x k) y y.stage
  stages z _ j (Changes e) = tt
  stages z _ j (Stays e) = stage_stays k (queued_up x k) z z.stage refl refl (rows-stay z.txn.session k.locks k.locks (λ row i w. i)) (λ op h. h) (sound.stages z j)

  rectangles : (z y : Session) → Among z k.sessions → Fate x.txn.session (at_stage Queued) z y → is_active y ≡ true → HasRectangles y.txn.ops
  rectangles z _ j (Changes e) a = sound.rectangles z j (active-at z j e)
  rectangles z _ j (Stays e) a = sound.rectangles z j a

  parts : (z y : Session) → Among z k.sessions → Fate x.txn.session (at_stage Queued) z y → is_active y ≡ true → HoldsParts (granules k.tree) (locks_of k.sessions k.locks) y.txn.number y.txn.ops
  parts z _ j (Changes e) a = sound.parts z j (active-at z j e)
  parts z _ j (Stays e) a = sound.parts z j a

  objects : (z y : Session) (pair : Answered) → Among z k.sessions → Fate x.txn.session (at_stage Queued) z y → is_active y ≡ true → Among pair y.txn.ops → HoldsObject k.locks y.txn.session pair.op
  objects z _ pair j (Changes e) a i = sound.objects z pair j (active-at z j e) i
  objects z _ pair j (Stays e) a i = sound.objects z pair j a i

  replays : (z y : Session) → Among z k.sessions → Fate x.txn.session (at_stage Queued) z y → is_active y ≡ true → Replays (entries_in k) y.txn.number y.txn.ops
  replays z _ j (Changes e) a = sound.replays z j (active-at z j e)
  replays z _ j (Stays e) a = sound.replays z j a

  owners : (row : Row) → HasOwner k.sessions row → HasOwner (staged x.txn.session Queued k.sessions) row
  owners row o = go (cond (is_session x.txn.session o.owner) (at_stage Queued o.owner) o.owner) (fate x.txn.session (at_stage Queued) o.owner) (among_map (λ z. cond (is_session x.txn.session z) (at_stage Queued z) z) o.owner k.sessions o.among)
    where
      go : (y : Session) → Fate x.txn.session (at_stage Queued) o.owner y → Among y (staged x.txn.session Queued k.sessions) → HasOwner (staged x.txn.session Queued k.sessions) row
      go _ (Changes e) i = record { owner = at_stage Queued o.owner; among = i; is_owner = o.is_owner; may = subst (λ (st : Stage). MayHave st row) (idle-at o.owner o.among e) o.may }
      go _ (Stays e) i = record { owner = o.owner; among = i; is_owner = o.is_owner; may = o.may }

  marks : (t : ℕ) (y : Session) → is_active y ≡ true → y.txn.number ≡ t → (z : Session) → Fate x.txn.session (at_stage Queued) y z → Among z (staged x.txn.session Queued k.sessions) → (w : Session) × Among w (staged x.txn.session Queued k.sessions) × (is_active w ≡ true) × (w.txn.number ≡ t)
  marks t y a n _ (Changes e) j = (at_stage Queued y, j, refl, n)
  marks t y a n _ (Stays e) j = (y, j, a, n)

  in_space : (z y : Session) → Among z k.sessions → Fate x.txn.session (at_stage Queued) z y → OfStage HasRectangle y.stage
  in_space z _ j (Changes e) = tt
  in_space z _ j (Stays e) = sound.in_space z j

  operations : (z y : Session) → Among z k.sessions → Fate x.txn.session (at_stage Queued) z y → is_active y ≡ true → length y.txn.ops + under_way y.stage ≤ most_operations
  operations z _ j (Changes e) a = let l = sound.counts.operations z j (active-at z j e) in omega (arith, l)
  operations z _ j (Stays e) a = sound.counts.operations z j a

  -- a commit with changes joins the queue
  pub queued_up-sound : Bare (queued_up x k)
  queued_up-sound = record {
    valid = sound.valid;
    ascending = sound.ascending;
    entry_numbers = sound.entry_numbers;
    base = sound.base;
    serial = sound.serial;
    current = sound.current;
    locks = sound.locks;
    acyclic = sound.acyclic;
    rows = λ row i. owners row (sound.rows row i);
    names = sound.names;
    sessions = sessions-staged k.next_txn (length k.commits) x.txn.session Queued k.sessions sound.sessions;
    latch = latch-staged x Queued k.sessions sound.latch (λ y i other. (tt, shares_queued y.stage));
    stages = λ y i. let o = of_change x.txn.session (at_stage Queued) k.sessions y i in stages o.old y o.stood o.how;
    in_space = λ y i. let o = of_change x.txn.session (at_stage Queued) k.sessions y i in in_space o.old y o.stood o.how;
    rectangles = λ y i a. let o = of_change x.txn.session (at_stage Queued) k.sessions y i in rectangles o.old y o.stood o.how a;
    parts = λ y i a. let o = of_change x.txn.session (at_stage Queued) k.sessions y i in
        parts-still (granules k.tree) (locks_of k.sessions k.locks) (locks_of (staged x.txn.session Queued k.sessions) k.locks) y.txn.number y.txn.ops (still y.txn.number) (parts o.old y o.stood o.how a);
    objects = λ y pair i a j. let o = of_change x.txn.session (at_stage Queued) k.sessions y i in objects o.old y pair o.stood o.how a j;
    owned = marks_owned-still (granules k.tree) (locks_of k.sessions k.locks) (locks_of (staged x.txn.session Queued k.sessions) k.locks) (entries_in k) still sound.owned;
    replays = λ y i a. let o = of_change x.txn.session (at_stage Queued) k.sessions y i in replays o.old y o.stood o.how a;
    active = λ t e i m. let a = sound.active t e i m in
        marks t a.0 a.2 a.3 (cond (is_session x.txn.session a.0) (at_stage Queued a.0) a.0) (fate x.txn.session (at_stage Queued) a.0) (among_map (λ z. cond (is_session x.txn.session z) (at_stage Queued z) z) a.0 k.sessions a.1);
    numbers = sound.numbers;
    dead = sound.dead;
    queued = joining;
    counts = record {
      transactions = let l = sound.counts.transactions in omega (arith, l, most, most', ones);
      endings = let l = sound.counts.endings in omega (arith, l, most, most', ones);
      operations = λ y i a. let o = of_change x.txn.session (at_stage Queued) k.sessions y i in operations o.old y o.stood o.how a;
      history = let l = sound.counts.history in let h = sums (λ y. length y.txn.ops + under_way y.stage) (omega arith) in omega (arith, l, h);
      replies = let l = sound.counts.replies in let h = sums (λ y. records_told y.txn.ops) (omega arith) in omega (arith, l, h);
      entries = sound.counts.entries;
      node_numbers = sound.counts.node_numbers;
      entry_numbers = sound.counts.entry_numbers;
      txn_numbers = sound.counts.txn_numbers;
    };
  }
    where
      most : open_transactions (staged x.txn.session Queued k.sessions) ≡ sum_by (λ y. 1) (filter is_active (staged x.txn.session Queued k.sessions))
      most = length-sum (filter is_active (staged x.txn.session Queued k.sessions))

      most' : open_transactions k.sessions ≡ sum_by (λ y. 1) (filter is_active k.sessions)
      most' = length-sum (filter is_active k.sessions)

      ones : sum_by (λ y. 1) (filter is_active (staged x.txn.session Queued k.sessions)) ≤ sum_by (λ y. 1) (filter is_active k.sessions)
      ones = sums (λ y. 1) (omega arith)

abbrev pub calls_for : List ℕ → ℕ
calls_for [] = 0
calls_for (n ∷ ns) = 1

-- a kernel while the batch takes its places, as if the rest were the batch and the dead list had what died since k0
abbrev pub as_if : Kernel → List ℕ → Kernel → Kernel
as_if k0 rest k = listed_anew (k0.dead ++ newly_dead (entries_in k0) (entries_in k)) k.queue rest (calls_for rest) k

calls_fit : (flight : List ℕ) → (calls_for flight < 4) × (flight ≢ [] → 1 ≤ calls_for flight) × (flight ≡ [] → calls_for flight ≡ 0)
calls_fit [] = (omega arith, λ h. absurd (h refl), λ h. refl)
calls_fit (n ∷ ns) = (omega arith, λ h. omega arith, λ h. absurd (some h))
  where
    some : n ∷ ns ≡ [] → ⊥
    some h = cc

-- one session of the batch has its place
queue-placed : (x : Session) (xs : List Session) (queue rest : List ℕ) (calls : ℕ) → AreAscending xs → Among x xs → QueueSound xs queue (x.txn.session ∷ rest) calls → QueueSound (with_change x.txn.session at_place xs) queue rest (calls_for rest)
queue-placed x xs queue rest calls ascending here h = record {
  once = IsDistinct-tail nat_eq x.txn.session (rest ++ queue) h.once;
  there = λ y i q. let o = of_change x.txn.session at_place xs y i in there o.old y o.stood o.how q;
  back = λ n i. let b = h.back n (inr i) in
      (b.0, others-among x.txn.session at_place xs b.0 b.1 (λ e. distinct-out x.txn.session (rest ++ queue) h.once (subst (λ m. Among m (rest ++ queue)) (sym b.2 ∙ e) i)), b.2, b.3);
  calls_few = (calls_fit rest).0;
  begun = (calls_fit rest).1;
  none = (calls_fit rest).2;
}
  where
    there : (z y : Session) → Among z xs → Fate x.txn.session at_place z y → is_queued y.stage ≡ true → Among y.txn.session (rest ++ queue)
    there z _ j (Changes e) q = absurd (true≢false (sym q))
    there z _ j (Stays e) q = other (h.there z j q)
      where
        other : (z.txn.session ≡ x.txn.session) ⊎ Among z.txn.session (rest ++ queue) → Among z.txn.session (rest ++ queue)
        other (inl s) = absurd (e s)
        other (inr i) = i

queued-active : (stage : Stage) → is_queued stage ≡ true → is_active_stage stage ≡ true
queued-active Queued q = refl
queued-active Idle q = refl
queued-active (Started op) q = refl
queued-active (NameWait op) q = refl
queued-active (Named op) q = refl
queued-active (NeedWait op) q = refl
queued-active (Planned op left) q = refl
queued-active Placed q = absurd (true≢false (sym q))

-- a commit of the batch has its place
abbrev pub placed : Session → Kernel → Kernel
placed x k = placed_found (Some x) k

module _ (k0 k : Kernel) (x : Session) (rest : List ℕ) (listed : DeadListed k0.dead (entries_in k0)) (stay : StayDead (entries_in k0) (entries_in k)) (sound : Bare (as_if k0 (x.txn.session ∷ rest) k)) (here : Among x k.sessions) (active : is_active x ≡ true) where
  entries-placed : entries_in (placed x k) ≡ map (settled x.txn.number) (entries_in k)
  entries-placed = entries_of_with (settled x.txn.number) (settled-keeps x.txn.number) k.tree

  pub stay-placed : StayDead (entries_in k0) (entries_in (placed x k))
  stay-placed n i =
      subst (λ (es : List Entry). Among n (dead_among es)) (sym entries-placed)
      (stay_dead-map (settled x.txn.number) (entries_in k) (λ e. refl) (settled-done x.txn.number) n (stay n i))

  left : Left x.txn.session k.sessions k.tree.next k.locks (released AllRows x.txn.session k.locks)
  left = left_released x.txn.session k.sessions k.tree.next k.locks sound.locks sound.acyclic sound.rows sound.names

  rows-placed : RowsOwned (with_change x.txn.session at_place k.sessions) (released AllRows x.txn.session k.locks)
  rows-placed row i = let o = left.owned row i in
      record { owner = o.owner; among = others-among x.txn.session at_place k.sessions o.owner o.among (λ e. left.others row i (sym o.is_owner ∙ e)); is_owner = o.is_owner; may = o.may }

  sessions-placed : SoundSessions k.next_txn (length (k.commits ++ placed_commit x k ∷ [])) (with_change x.txn.session at_place k.sessions)
  sessions-placed = let h = sessions-changed x.txn.session at_place placed-keeps k.next_txn (length k.commits) k.sessions (λ y i e. refl) sound.sessions in record {
    ascending = h.ascending;
    numbers = h.numbers;
    used = h.used;
    seen = λ y i. let l = h.seen y i in let m = length-push (as_if k0 (x.txn.session ∷ rest) k) x sound here active in omega (arith, l, m);
    searches = h.searches;
  }

  was : (z y : Session) → Among z k.sessions → Fate x.txn.session at_place z y → (Among y k.sessions × (y.txn.session ≢ x.txn.session)) ⊎ (y.stage ≡ Placed)
  was z _ j (Changes e) = inr refl
  was z _ j (Stays e) = inl (j, e)

  old : (z y : Session) → Among z k.sessions → Fate x.txn.session at_place z y → is_active y ≡ true → Among y k.sessions
  old z _ j (Changes e) a = absurd (true≢false (sym a))
  old z _ j (Stays e) a = j

  dead-placed : DeadListed (k0.dead ++ newly_dead (entries_in k0) (entries_in (placed x k))) (map (settled x.txn.number) (entries_in k))
  dead-placed =
      subst (λ (es : List Entry). DeadListed (k0.dead ++ newly_dead (entries_in k0) (entries_in (placed x k))) es) entries-placed
      (dead_grows k0.dead (entries_in k0) (entries_in (placed x k)) (valid_with (settled x.txn.number) (settled-keeps x.txn.number) k.tree sound.valid).distinct_entries stay-placed listed)

  sums-placed : (f : Session → ℕ) → sum_by f (filter is_active (with_change x.txn.session at_place k.sessions)) + share f x ≡ sum_by f (filter is_active k.sessions)
  sums-placed f = let c = change-sum f at_place k.sessions sound.sessions.ascending x here in omega (arith, c)

  placed-ends : Ends (settled x.txn.number) x (as_if k0 (x.txn.session ∷ rest) k) (as_if k0 rest (placed x k))
  placed-ends = record {
    here = here;
    marks = record { tree = refl; next_entry = refl };
    keeps = settled-keeps x.txn.number;
    marked = λ t e i m. settled-others x.txn.number t e m;
    free = λ t e h. settled-free x.txn.number t e h;
    sight = commit-sight (as_if k0 (x.txn.session ∷ rest) k) x sound here active;
    replays = commit-replays (as_if k0 (x.txn.session ∷ rest) k) x sound here active;
    base = refl;
    serial = commit-serial (as_if k0 (x.txn.session ∷ rest) k) x sound here active;
    current = commit-current (as_if k0 (x.txn.session ∷ rest) k) x sound here active;
    locks = left.locks;
    acyclic = left.acyclic;
    rows = rows-placed;
    names = left.names;
    held = λ y i other. left.held y.txn.session other;
    awaits = λ y op i other h. left.awaits y.txn.session op other h;
    next_txn = refl;
    sessions = sessions-placed;
    stay = λ y i other. others-among x.txn.session at_place k.sessions y i other;
    was = λ y i. let o = of_change x.txn.session at_place k.sessions y i in was o.old y o.stood o.how;
    dead = dead-placed;
    queued = queue-placed x k.sessions k.queue rest 1 sound.sessions.ascending here sound.queued;
    counts = counts_left (as_if k0 (x.txn.session ∷ rest) k) (as_if k0 rest (placed x k)) x sound.counts
        (commit-counted (as_if k0 (x.txn.session ∷ rest) k) x sound here active (as_if k0 rest (placed x k)) refl refl (ap length entries-placed ∙ length-map (entries_in k) (settled x.txn.number)) refl refl refl
        sums-placed (λ y i a. let o = of_change x.txn.session at_place k.sessions y i in old o.old y o.stood o.how a));
  }

  pub placed-sound : Bare (as_if k0 rest (placed x k))
  placed-sound = ends_sound (settled x.txn.number) x (as_if k0 (x.txn.session ∷ rest) k) (as_if k0 rest (placed x k)) sound placed-ends

-- the first of the batch takes its place
pub place_next : (k0 k : Kernel) (s : ℕ) (rest : List ℕ) → DeadListed k0.dead (entries_in k0) → StayDead (entries_in k0) (entries_in k) → Bare (as_if k0 (s ∷ rest) k)
    → Bare (as_if k0 rest (placed_found (session_at s k.sessions) k)) × StayDead (entries_in k0) (entries_in (placed_found (session_at s k.sessions) k))
place_next k0 k s rest listed stay sound = go (session_at s k.sessions) refl
  where
    first : (x : Session) × Among x k.sessions × (x.txn.session ≡ s) × (is_queued x.stage ≡ true)
    first = sound.queued.back s (inl refl)

    go : (o : Option Session) → session_at s k.sessions ≡ o → Bare (as_if k0 rest (placed_found o k)) × StayDead (entries_in k0) (entries_in (placed_found o k))
    go None e = absurd (none-among s k.sessions first.0 e first.1 first.2)
    go (Some x) e =
        let f = found-among s k.sessions x e in
        let same : first.0 ≡ x = one-session k.sessions sound.sessions.ascending first.0 x first.1 f.0 (first.2 ∙ sym f.1) in
        let active : is_active x ≡ true = queued-active x.stage (subst (λ (z : Session). is_queued z.stage ≡ true) same first.3) in
        let sound' : Bare (as_if k0 (x.txn.session ∷ rest) k) = subst (λ (n : ℕ). Bare (as_if k0 (n ∷ rest) k)) (sym f.1) sound in
        (placed-sound k0 k x rest listed stay sound' f.0 active, stay-placed k0 k x rest listed stay sound' f.0 active)

each_placed : (k0 k : Kernel) (batch : List ℕ) → DeadListed k0.dead (entries_in k0) → StayDead (entries_in k0) (entries_in k) → Bare (as_if k0 batch k) → Bare (as_if k0 [] (placed_each batch k))
each_placed k0 k [] listed stay sound = sound
each_placed k0 k (s ∷ rest) listed stay sound = let p = place_next k0 k s rest listed stay sound in each_placed k0 (placed_found (session_at s k.sessions) k) rest listed p.1 p.0

-- the whole batch is before it
pub batch-sound : (k : Kernel) → Bare k → Bare (as_if k k.flight k)
batch-sound k sound = listed-sound k (k.dead ++ newly_dead (entries_in k) (entries_in k)) k.queue k.flight (calls_for k.flight) sound
    (dead_grows k.dead (entries_in k) (entries_in k) sound.valid.distinct_entries (λ n i. i) sound.dead)
    (record {
      once = sound.queued.once;
      there = sound.queued.there;
      back = sound.queued.back;
      calls_few = (calls_fit k.flight).0;
      begun = (calls_fit k.flight).1;
      none = (calls_fit k.flight).2;
    })

-- once the batch is on the disk each of its commits takes its place
pub placed_all-sound : (k : Kernel) → Bare k → Bare (placed_all k)
placed_all-sound k sound = each_placed k k k.flight sound.dead (λ n i. i) (batch-sound k sound)
