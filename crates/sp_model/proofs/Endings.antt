-- A rollback, a commit, and the news of a commit keep a kernel sound.
use Rattle.std.proofs.Common.{◌≡◌, ◌≢◌, ℕ, ◌+◌, ◌≤◌, Bool, true, false, List, [], ◌∷◌, ◌++◌, map, filter, length, None, Some, refl, sym, ap, ◌∙◌, subst, inl, true≢false, arith}
use Rattle.std.specs.List.{IsDistinct, sum_by}
use Rattle.std.specs.Prelude.{nat_eq}
use Rattle.std.proofs.lemmas.List.{length-map}
use Rattle.std.proofs.lemmas.List.Sums.{sum_by_push}
use Rattle.sp_rect.specs.declared.record.Record.{Record}
use Rattle.sp_rect.specs.declared.commit.Commit.{Commit}
use Rattle.sp_rect.specs.declared.operation.Op.{Op}
use Rattle.sp_rect.specs.declared.operation.Op.TheVariants.{Put, Drop, Set, Get, Find, Fill, Clear}
use Rattle.sp_rect.specs.Store.{Id, Area, part_of, IsOrdered}
use Rattle.sp_rect.specs.Serial.{records_after, RepliesAsPlain, Serial, after_all}
use Rattle.sp_locks.specs.declared.mode.Mode.{Mode}
use Rattle.sp_locks.specs.declared.mode.Mode.TheVariants.{S, X}
use Rattle.sp_locks.specs.declared.row.Name.TheVariants.{Object}
use Rattle.sp_locks.specs.declared.row.Row.{Row}
use Rattle.sp_locks.specs.declared.row.Duration.TheVariants.{Commit as ToTheEnd}
use Rattle.sp_locks.specs.declared.row.Scope.TheVariants.{ShortLocks, AllRows}
use Rattle.sp_locks.specs.declared.needs.Need.{Need}
use Rattle.sp_locks.specs.Modes.{covers}
use Rattle.sp_locks.specs.Rows.{waiting_in}
use Rattle.sp_locks.specs.Table.{released}
use Rattle.sp_waits.specs.declared.edge.Edge.{Edge}
use Rattle.sp_node.specs.declared.node.Entry.{Entry}
use Rattle.sp_node.specs.Among.{Among}
use Rattle.sp_node.specs.declared.node.Node.{Node}
use Rattle.sp_node.specs.declared.node.Node.TheVariants.{Leaf, Inner}
use Rattle.sp_node.specs.Change.{node_with, nodes_with, table_with, Keeps}
use Rattle.sp_node.specs.Marks.{is_marked, is_done, settled, undone}
use Rattle.sp_node.specs.Table.{Table}
use Rattle.sp_node.proofs.Changed.{valid_with, entries_of_with}
use Rattle.sp_txn.specs.Visible.{is_live, is_visible, record_of, record_for, live, view}
use Rattle.sp_audit.specs.declared.ended.Ended.{Ended}
use Rattle.sp_audit.proofs.Serial.{Serial-push}
use Rattle.sp_rect.specs.Plane.{Rectangle}
use Rattle.sp_protection.specs.Holding.{Lock, HoldsMode, AllCompatible}
use Rattle.sp_protection.specs.Replays.{Replays, OneEach}
use Rattle.sp_protection.proofs.Applying.{rollback-live, rollback_replays}
use Rattle.sp_protection.proofs.Clashes.{covers-trans, clash, exclusive-against_shared}
use Rattle.sp_protection.proofs.Commits.{commit_shows_view, commit_undisturbed}
use Rattle.sp_protection.proofs.Rearranging.{ordered_parts, run_ordered, one_each}
use Rattle.sp_model.specs.declared.session.Session.{Session}
use Rattle.sp_model.specs.declared.session.Stage.{Stage}
use Rattle.sp_model.specs.declared.session.Stage.TheVariants.{Planned, Placed}
use Rattle.sp_model.specs.State.{Kernel, entries_in, is_active, is_active_stage, sessions_without, locks_of}
use Rattle.sp_model.specs.Refusals.{under_way, kept_operations}
use Rattle.sp_model.specs.Moves.{newly_dead, with_ended, let_short_go, rolled_back, placed_commit, committed}
use Rattle.sp_model.specs.Plans.{object_of}
use Rattle.sp_model.specs.Stepped.{records_told}
use Rattle.sp_model.specs.Soundness.{MayHave, HoldsObject, HoldsStage, DeadListed, is_queued}
use Rattle.sp_model.proofs.Bare.{Bare}
use Rattle.sp_model.proofs.Sessions.{one-session, one-keyed, of_without, among-without}
use Rattle.sp_model.proofs.Holding.{rows-stay, row-mode, of_held, locks-compatible}
use Rattle.sp_model.proofs.Counting.{share, without-sum}
use Rattle.sp_model.proofs.Dead.{stay_dead-map, dead_grows}
use Rattle.sp_model.proofs.Planned.{LeavesSight}
use Rattle.sp_model.proofs.Leaving.{Ends, ends_sound}
use Rattle.sp_model.proofs.Left.{Left, left_released, left_twice, rows-without, sound-without, queue-without, Counted, counts_left}
use Rattle.sp_model.proofs.Settling.{undone-keeps, settled-keeps, undone-done, settled-done, undone-free, settled-free, undone-others, settled-others, undone-seen, settled-seen, undone-new, settled-new}

-- a session of another number has another transaction
pub numbers-other : (k : Kernel) (x y : Session) → Bare k → Among x k.sessions → Among y k.sessions → y.txn.session ≢ x.txn.session → y.txn.number ≢ x.txn.number
numbers-other k x y sound i j other same = other (ap (λ (z : Session). z.txn.session) (one-keyed (λ (z : Session). z.txn.number) k.sessions sound.sessions.numbers y x j i same))

-- the dead list after a change of marks that leaves the dead dead
pub dead-with : (k : Kernel) (change : Entry → Entry) → Bare k → Keeps change → ((e : Entry) → is_done e.marks.ended ≡ true → is_done (change e).marks.ended ≡ true) → DeadListed (k.dead ++ newly_dead (entries_in k) (map change (entries_in k))) (map change (entries_in k))
dead-with k change sound keeps done =
    dead_grows k.dead (entries_in k) (map change (entries_in k))
    (subst (λ (es : List Entry). IsDistinct nat_eq (map (λ e. e.number) es)) (entries_of_with change keeps k.tree) (valid_with change keeps k.tree sound.valid).distinct_entries)
    (stay_dead-map change (entries_in k) keeps.number done) sound.dead

-- a kernel without the transaction, as it is undone
pub gone : Session → List Row → List Ended → Kernel → Kernel
gone x rows ended k = record k {
  tree = table_with (undone x.txn.number) k.tree;
  dead = k.dead ++ newly_dead (entries_in k) (map (undone x.txn.number) (entries_in k));
  sessions = sessions_without x.txn.session k.sessions;
  locks = rows;
  ended = ended;
}

gone-ends : (k : Kernel) (x : Session) (rows : List Row) (ended : List Ended) → Bare k → Among x k.sessions → is_active x ≡ true → is_queued x.stage ≡ false → length ended ≤ length k.ended + 1
    → Left x.txn.session k.sessions k.tree.next k.locks rows → Ends (undone x.txn.number) x k (gone x rows ended k)
unfolding gone
gone-ends k x rows ended sound here active unqueued few left = record {
  here = here;
  marks = record { tree = refl; next_entry = refl };
  keeps = undone-keeps x.txn.number;
  marked = λ t e i m. undone-others x.txn.number t e m;
  free = λ t e h. undone-free x.txn.number t e h;
  sight = λ y op left' i other at. record {
    keeps = undone-keeps x.txn.number;
    sight = λ id e is j same. undone-seen x.txn.number y.txn.number e (numbers-other k x y sound here i other);
    new = λ r n. undone-new x.txn.number y.txn.number r n (numbers-other k x y sound here i other);
  };
  replays = λ y i other a. rollback_replays x.txn.number y.txn.number (entries_in k) y.txn.ops (numbers-other k x y sound here i other) (sound.replays y i a);
  base = refl;
  serial = sound.serial;
  current = rollback-live x.txn.number (entries_in k) ∙ sound.current;
  locks = left.locks;
  acyclic = left.acyclic;
  rows = rows-without x.txn.session k.sessions rows left.others left.owned;
  names = left.names;
  held = λ y i other. left.held y.txn.session other;
  awaits = λ y op i other h. left.awaits y.txn.session op other h;
  next_txn = refl;
  sessions = sound-without k.next_txn (length k.commits) (length k.commits) x.txn.session k.sessions (omega arith) sound.sessions;
  stay = λ y i other. among-without x.txn.session k.sessions y i other;
  was = λ y i. inl (of_without x.txn.session k.sessions y i);
  dead = dead-with k (undone x.txn.number) sound (undone-keeps x.txn.number) (undone-done x.txn.number);
  queued = queue-without x k.sessions k.queue k.flight k.calls sound.sessions.ascending here unqueued sound.queued;
  counts = counts_left k (gone x rows ended k) x sound.counts (record {
    sums = λ f. without-sum f k.sessions sound.sessions.ascending x here;
    old = λ y i a. (of_without x.txn.session k.sessions y i).0;
    endings = rw active (omega (arith, few));
    kept = more (kept_operations k.commits) (share (λ y. length y.txn.ops + under_way y.stage) x);
    told = more (sum_by (λ c. records_told c.ops) k.commits) (share (λ y. records_told y.txn.ops) x);
    entries = ap length (entries_of_with (undone x.txn.number) (undone-keeps x.txn.number) k.tree) ∙ length-map (entries_in k) (undone x.txn.number);
    next = refl;
    next_entry = refl;
    next_txn = refl;
  });
}
  where
    more : (a b : ℕ) → a ≤ a + b
    more a b = omega arith

-- a rollback keeps a kernel sound, after whichever release of the session's own rows, and with an ending that the audit keeps
pub gone_sound : (k : Kernel) (x : Session) (rows : List Row) (ended : List Ended) → Bare k → Among x k.sessions → is_active x ≡ true → is_queued x.stage ≡ false → length ended ≤ length k.ended + 1
    → Left x.txn.session k.sessions k.tree.next k.locks rows → Bare (gone x rows ended k)
gone_sound k x rows ended sound here active unqueued few left = ends_sound (undone x.txn.number) x k (gone x rows ended k) sound (gone-ends k x rows ended sound here active unqueued few left)

pub rolled_back-sound : (k : Kernel) (x : Session) → Bare k → Among x k.sessions → is_active x ≡ true → is_queued x.stage ≡ false → Bare (rolled_back x k)
unfolding gone
rolled_back-sound k x sound here active unqueued =
    gone_sound k x (released AllRows x.txn.session k.locks) k.ended sound here active unqueued (omega arith) (left_released x.txn.session k.sessions k.tree.next k.locks sound.locks sound.acyclic sound.rows sound.names)

-- the rollback that a deadlock asks, after the short locks of the session went
pub deadlock_ended-sound : (k : Kernel) (x : Session) (cycle : List Edge) → Bare k → Among x k.sessions → is_active x ≡ true → is_queued x.stage ≡ false → waiting_in x.txn.session k.locks ≡ None
    → Bare (with_ended x.txn.number cycle (rolled_back x (let_short_go x.txn.session k)))
unfolding gone
deadlock_ended-sound k x cycle sound here active unqueued awake =
    gone_sound k x (released AllRows x.txn.session (released ShortLocks x.txn.session k.locks)) (k.ended ++ record { txn = x.txn.number; cycle = cycle } ∷ []) sound here active unqueued (one_more k.ended)
    (left_twice x.txn.session k.sessions k.tree.next k.locks sound.locks sound.acyclic awake sound.rows sound.names)
  where
    one_more : (xs : List Ended) → length (xs ++ record { txn = x.txn.number; cycle = cycle } ∷ []) ≤ length xs + 1
    one_more [] = omega arith
    one_more (y ∷ ys) = let l = one_more ys in omega (arith, l)

same_id : (a b : ℕ) → Id a ≡ Id b → a ≡ b
same_id a b e = cc

no_id : (rect : Rectangle) (id : ℕ) → Area rect ≡ Id id → ⊥
no_id rect id e = cc

pushed : (cs : List Commit) (c : Commit) → length (cs ++ c ∷ []) ≡ length cs + 1
pushed [] c = refl
pushed (d ∷ cs) c = let l = pushed cs c in omega (arith, l)

-- the lock that an operation asks on its object covers S there
object_part : (op : Op) (id : ℕ) → part_of op ≡ Id id → (mode : Mode) × (object_of op ≡ Some (Object id, mode)) × (covers mode S ≡ true)
object_part (Put r) id e = (X, ap (λ (n : ℕ). Some (Object n, X)) (same_id r.id id e), refl)
object_part (Drop i) id e = (X, ap (λ (n : ℕ). Some (Object n, X)) (same_id i id e), refl)
object_part (Set i value) id e = (X, ap (λ (n : ℕ). Some (Object n, X)) (same_id i id e), refl)
object_part (Get i) id e = (S, ap (λ (n : ℕ). Some (Object n, S)) (same_id i id e), refl)
object_part (Find rect) id e = absurd (no_id rect id e)
object_part (Fill rect value) id e = absurd (no_id rect id e)
object_part (Clear rect) id e = absurd (no_id rect id e)

pub run_all : (base : List Record) (commits : List Commit) → IsOrdered base → IsOrdered (after_all base commits)
run_all base [] h = h
run_all base (c ∷ commits) h = run_all (records_after base c.ops) commits (run_ordered c.ops base h)

after_all-push : (base : List Record) (commits : List Commit) (c : Commit) → after_all base (commits ++ c ∷ []) ≡ records_after (after_all base commits) c.ops
after_all-push base [] c = refl
after_all-push base (d ∷ commits) c = after_all-push (records_after base d.ops) commits c

-- the commit of an active session's transaction in a sound kernel
module _ (k : Kernel) (x : Session) (sound : Bare k) (here : Among x k.sessions) (active : is_active x ≡ true) where
  locks : List Lock
  locks = locks_of k.sessions k.locks

  compatible : AllCompatible (locks_of k.sessions k.locks)
  compatible = locks-compatible k.next_txn (length k.commits) k.sessions k.locks sound.sessions sound.locks

  ordered : IsOrdered (live (entries_in k))
  ordered = subst IsOrdered (sym sound.current) (run_all k.base k.commits sound.base)

  one_live : OneEach is_live (entries_in k)
  one_live = one_each is_live record_of (entries_in k) (λ e. refl) (ordered_parts (live (entries_in k)) ordered).1

  one_seen : OneEach (is_visible x.txn.number) (entries_in k)
  one_seen = one_each (is_visible x.txn.number) (record_for x.txn.number) (entries_in k) (λ e. refl)
      (ordered_parts (view (entries_in k) x.txn.number) (subst IsOrdered (sound.replays x here active).same_view (run_ordered x.txn.ops (live (entries_in k)) ordered))).1

  -- others replay what they did
  pub commit-replays : (y : Session) → Among y k.sessions → y.txn.session ≢ x.txn.session → is_active y ≡ true → Replays (map (settled x.txn.number) (entries_in k)) y.txn.number y.txn.ops
  commit-replays y i other a =
      commit_undisturbed k.tree (locks_of k.sessions k.locks) y.txn.number x.txn.number (entries_in k) y.txn.ops sound.valid compatible (λ same. numbers-other k x y sound here i other (sym same)) sound.owned one_live one_seen
      (sound.rectangles y i a) (sound.parts y i a) (sound.replays y i a)

  -- an object that another holds bears no mark of the transaction
  pub unmarked-object : (y : Session) (op : Op) (id : ℕ) (e : Entry) → Among y k.sessions → y.txn.session ≢ x.txn.session → HoldsObject k.locks y.txn.session op → part_of op ≡ Id id → Among e (entries_in k) → e.id ≡ id → is_marked x.txn.number e ≡ false
  unmarked-object y op id e i other holds is j same = go (is_marked x.txn.number e) refl
    where
      held : HoldsMode (locks_of k.sessions k.locks) y.txn.number (Object id) S
      held = let p = object_part op id is in
          let h = row-mode k.sessions k.locks y (Object id) p.0 i (of_held k.locks y.txn.session (record { name = Object id; mode = p.0; duration = ToTheEnd }) (holds (Object id) p.0 p.1)) in
          record { lock = h.lock; held = h.held; by_txn = h.by_txn; on_name = h.on_name; enough = covers-trans h.lock.mode p.0 S h.enough p.2 }

      go : (b : Bool) → is_marked x.txn.number e ≡ b → b ≡ false
      go false m = refl
      go true m = absurd
          (clash (locks_of k.sessions k.locks) y.txn.number x.txn.number (Object id) S X compatible (λ same. numbers-other k x y sound here i other (sym same)) exclusive-against_shared held
          (subst (λ (n : ℕ). HoldsMode (locks_of k.sessions k.locks) x.txn.number (Object n) X) same (sound.owned x.txn.number e j m).object))

  pub commit-sight : (y : Session) (op : Op) (left : List Need) → Among y k.sessions → y.txn.session ≢ x.txn.session → y.stage ≡ Planned op left → LeavesSight (settled x.txn.number) (entries_in k) y.txn.number op
  commit-sight y op left i other at = record {
    keeps = settled-keeps x.txn.number;
    sight = λ id e is j same. settled-seen x.txn.number y.txn.number e (unmarked-object y op id e i other (subst (λ (s : Stage). HoldsStage k y s) at (sound.stages y i)).0 is j same);
    new = λ r n. settled-new x.txn.number y.txn.number r n (numbers-other k x y sound here i other);
  }

  pub commit-serial : Serial k.base (k.commits ++ placed_commit x k ∷ [])
  commit-serial =
      let l = sound.sessions.seen x here in
      Serial-push k.base k.commits (placed_commit x k) sound.serial refl (omega arith) (subst (λ (rs : List Record). RepliesAsPlain rs x.txn.ops) sound.current (sound.replays x here active).same_replies)

  pub commit-current : live (map (settled x.txn.number) (entries_in k)) ≡ after_all k.base (k.commits ++ placed_commit x k ∷ [])
  commit-current =
      commit_shows_view x.txn.number (entries_in k) ∙ sym (sound.replays x here active).same_view ∙ ap (λ (rs : List Record). records_after rs x.txn.ops) sound.current ∙ sym (after_all-push k.base k.commits (placed_commit x k))

  pub length-push : length (k.commits ++ placed_commit x k ∷ []) ≡ length k.commits + 1
  length-push = pushed k.commits (placed_commit x k)

  -- what the commit adds to the audit, the session was
  pub commit-counted : (k' : Kernel) → k'.commits ≡ k.commits ++ placed_commit x k ∷ [] → k'.ended ≡ k.ended → length (entries_in k') ≡ length (entries_in k) → k'.tree.next ≡ k.tree.next → k'.next_entry ≡ k.next_entry → k'.next_txn ≡ k.next_txn
      → ((f : Session → ℕ) → sum_by f (filter is_active k'.sessions) + share f x ≡ sum_by f (filter is_active k.sessions)) → ((y : Session) → Among y k'.sessions → is_active y ≡ true → Among y k.sessions) → Counted k k' x
  commit-counted k' commits ended entries next next_entry next_txn sums old = record {
    sums = sums;
    old = old;
    endings = rw (commits, ended, active) (let l = length-push in omega (arith, l));
    kept = rw (commits, active) (let l = sum_by_push (λ (c : Commit). length c.ops) k.commits (placed_commit x k) in omega (arith, l));
    told = rw (commits, active) (let l = sum_by_push (λ (c : Commit). records_told c.ops) k.commits (placed_commit x k) in omega (arith, l));
    entries = entries;
    next = next;
    next_entry = next_entry;
    next_txn = next_txn;
  }

committed-ends : (k : Kernel) (x : Session) → Bare k → Among x k.sessions → is_active x ≡ true → is_queued x.stage ≡ false → Ends (settled x.txn.number) x k (committed x k)
committed-ends k x sound here active unqueued = record {
  here = here;
  marks = record { tree = refl; next_entry = refl };
  keeps = settled-keeps x.txn.number;
  marked = λ t e i m. settled-others x.txn.number t e m;
  free = λ t e h. settled-free x.txn.number t e h;
  sight = commit-sight k x sound here active;
  replays = commit-replays k x sound here active;
  base = refl;
  serial = commit-serial k x sound here active;
  current = commit-current k x sound here active;
  locks = left.locks;
  acyclic = left.acyclic;
  rows = rows-without x.txn.session k.sessions (released AllRows x.txn.session k.locks) left.others left.owned;
  names = left.names;
  held = λ y i other. left.held y.txn.session other;
  awaits = λ y op i other h. left.awaits y.txn.session op other h;
  next_txn = refl;
  sessions = sound-without k.next_txn (length k.commits) (length (k.commits ++ placed_commit x k ∷ [])) x.txn.session k.sessions (let l = length-push k x sound here active in omega (arith, l)) sound.sessions;
  stay = λ y i other. among-without x.txn.session k.sessions y i other;
  was = λ y i. inl (of_without x.txn.session k.sessions y i);
  dead = dead-with k (settled x.txn.number) sound (settled-keeps x.txn.number) (settled-done x.txn.number);
  queued = queue-without x k.sessions k.queue k.flight k.calls sound.sessions.ascending here unqueued sound.queued;
  counts = counts_left k (committed x k) x sound.counts
      (commit-counted k x sound here active (committed x k) refl refl (ap length (entries_of_with (settled x.txn.number) (settled-keeps x.txn.number) k.tree) ∙ length-map (entries_in k) (settled x.txn.number)) refl refl refl
      (λ f. without-sum f k.sessions sound.sessions.ascending x here) (λ y i a. (of_without x.txn.session k.sessions y i).0));
}
  where
    left : Left x.txn.session k.sessions k.tree.next k.locks (released AllRows x.txn.session k.locks)
    left = left_released x.txn.session k.sessions k.tree.next k.locks sound.locks sound.acyclic sound.rows sound.names

-- a commit of an idle session keeps a kernel sound
pub committed-sound : (k : Kernel) (x : Session) → Bare k → Among x k.sessions → is_active x ≡ true → is_queued x.stage ≡ false → Bare (committed x k)
committed-sound k x sound here active unqueued = ends_sound (settled x.txn.number) x k (committed x k) sound (committed-ends k x sound here active unqueued)

-- a change that changes nothing leaves the tree
same_entries : (es : List Entry) → map (λ e. e) es ≡ es
same_entries [] = refl
same_entries (e ∷ es) = ap (λ (xs : List Entry). e ∷ xs) (same_entries es)

same_node : (n : Node) → node_with (λ e. e) n ≡ n
same_node (Leaf es) = ap Leaf (same_entries es)
same_node (Inner cs) = refl

same_nodes : (ns : List (ℕ × Node)) → nodes_with (λ e. e) ns ≡ ns
same_nodes [] = refl
same_nodes (n ∷ ns) = λ i. (n.0, same_node n.1 i) ∷ same_nodes ns i

pub same_table : (t : Table) → table_with (λ e. e) t ≡ t
same_table t = ap (λ (ns : List (ℕ × Node)). record { shape = t.shape; root = t.root; next = t.next; nodes = ns }) (same_nodes t.nodes)

told-ends : (k : Kernel) (x : Session) → Bare k → Among x k.sessions → x.stage ≡ Placed → Ends (λ e. e) x k (record k { sessions = sessions_without x.txn.session k.sessions })
told-ends k x sound here placed = record {
  here = here;
  marks = record { tree = sym (same_table k.tree); next_entry = refl };
  keeps = record { number = λ e. refl; id = λ e. refl; rect = λ e. refl };
  marked = λ t e i m. (
    m,
    λ is. let a = sound.active t e i m in
        true≢false (sym a.2 ∙ ap is_active (one-keyed (λ (z : Session). z.txn.number) k.sessions sound.sessions.numbers a.0 x a.1 here (a.3 ∙ is)) ∙ ap is_active_stage placed),
  );
  free = λ t e h. h;
  sight = λ y op left i other at. record { keeps = record { number = λ e. refl; id = λ e. refl; rect = λ e. refl }; sight = λ id e is j same. refl; new = λ r n. refl };
  replays = λ y i other a. subst (λ (es : List Entry). Replays es y.txn.number y.txn.ops) (sym (same_entries (entries_in k))) (sound.replays y i a);
  base = refl;
  serial = sound.serial;
  current = ap live (same_entries (entries_in k)) ∙ sound.current;
  locks = sound.locks;
  acyclic = sound.acyclic;
  rows = rows-without x.txn.session k.sessions k.locks none sound.rows;
  names = sound.names;
  held = λ y i other. rows-stay y.txn.session k.locks k.locks (λ row j w. j);
  awaits = λ y op i other h. h;
  next_txn = refl;
  sessions = sound-without k.next_txn (length k.commits) (length k.commits) x.txn.session k.sessions (omega arith) sound.sessions;
  stay = λ y i other. among-without x.txn.session k.sessions y i other;
  was = λ y i. inl (of_without x.txn.session k.sessions y i);
  dead = subst (DeadListed k.dead) (sym (same_entries (entries_in k))) sound.dead;
  queued = queue-without x k.sessions k.queue k.flight k.calls sound.sessions.ascending here (ap is_queued placed) sound.queued;
  counts = counts_left k (record k { sessions = sessions_without x.txn.session k.sessions }) x sound.counts (record {
    sums = λ f. without-sum f k.sessions sound.sessions.ascending x here;
    old = λ y i a. (of_without x.txn.session k.sessions y i).0;
    endings = more (length k.commits + length k.ended) (share (λ y. 1) x);
    kept = more (kept_operations k.commits) (share (λ y. length y.txn.ops + under_way y.stage) x);
    told = more (sum_by (λ c. records_told c.ops) k.commits) (share (λ y. records_told y.txn.ops) x);
    entries = refl;
    next = refl;
    next_entry = refl;
    next_txn = refl;
  });
}
  where
    more : (a b : ℕ) → a ≤ a + b
    more a b = omega arith

    none : (row : Row) → Among row k.locks → row.session ≢ x.txn.session
    none row i is =
        let o = sound.rows row i in
        subst (λ (s : Stage). MayHave s row) (ap (λ (z : Session). z.stage) (one-session k.sessions sound.sessions.ascending o.owner x o.among here (o.is_owner ∙ is)) ∙ placed) o.may

-- the news of its place lets go of a session
pub told-sound : (k : Kernel) (x : Session) → Bare k → Among x k.sessions → x.stage ≡ Placed → Bare (record k { sessions = sessions_without x.txn.session k.sessions })
told-sound k x sound here placed = ends_sound (λ e. e) x k (record k { sessions = sessions_without x.txn.session k.sessions }) sound (told-ends k x sound here placed)
