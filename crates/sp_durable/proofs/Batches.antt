-- The changes of the commits that wait, made one after the other.
use Rattle.std.proofs.Common.{◌≡◌, ◌≢◌, ℕ, ◌<◌, ◌≤◌, Bool, true, false, nat_eq, List, [], ◌∷◌, ◌++◌, Option, Some, None, refl, sym, ap, ◌∙◌, subst, inl, append-nil, arith}
use Rattle.std.specs.List.{IsDistinct}
use Rattle.std.specs.List.Sorted.{IsPermutation}
use Rattle.std.proofs.lemmas.List.Sorted.{IsPermutation-refl, IsPermutation-trans}
use Rattle.sp_rect.specs.declared.record.Record.{Record}
use Rattle.sp_plain.specs.declared.change.Change.{Change}
use Rattle.sp_plain.specs.Taking.{can_change, left_by, taken}
use Rattle.sp_node.specs.declared.node.Entry.{Entry}
use Rattle.sp_node.specs.Among.{Among}
use Rattle.sp_node.specs.Marks.{settled}
use Rattle.sp_node.proofs.Among.{among_left, among_right}
use Rattle.sp_node.proofs.Changed.{entries_of_with}
use Rattle.sp_txn.specs.Changes.{changes_of}
use Rattle.sp_txn.specs.Visible.{live}
use Rattle.sp_journal.specs.Recovery.{all_changes}
use Rattle.sp_model.specs.declared.session.Session.{Session}
use Rattle.sp_model.specs.declared.session.Stage.TheVariants.{Idle, Queued}
use Rattle.sp_model.specs.State.{Kernel, entries_in, is_active, session_at, with_change, at_stage, staged}
use Rattle.sp_model.specs.Moves.{newly_dead, at_place, placed_found, placed_each, placed_all}
use Rattle.sp_model.specs.Soundness.{DeadListed, is_queued}
use Rattle.sp_model.proofs.Bare.{Bare}
use Rattle.sp_model.proofs.Sessions.{found-among, one-session, among-found, others-among, changed-among}
use Rattle.sp_model.proofs.Dead.{StayDead, dead_grows, distinct-out}
use Rattle.sp_model.proofs.Settling.{settled-keeps}
use Rattle.sp_model.proofs.Flushing.{listed-sound, calls_for, as_if, place_next, batch-sound, queued_up, queued_up-sound}
use Rattle.sp_durable.specs.Held.{AreChanges, HasChanges, AreHeld}
use Rattle.sp_durable.proofs.Alike.{changes_settled}
use Rattle.sp_durable.proofs.Owners.{changes_settle}
use Rattle.sp_durable.proofs.Staying.{queued-active, queued-other, marks_apart, StaysSame, StayQueued, changes_stay, all_stay, flight_stays, queue_stays}

-- changes and then others
taken_both : (cs ds : List Change) (rs mid : List Record) → taken cs rs ≡ Some mid → taken (cs ++ ds) rs ≡ taken ds mid
taken_both [] ds rs mid h = ap (taken ds) (some rs mid h)
  where
    some : (a b : List Record) → Some a ≡ Some b → a ≡ b
    some a b e = cc
taken_both (c ∷ cs) ds rs mid h = go (can_change c rs) refl (taken_both cs ds (left_by c rs) mid)
  where
    go : (b : Bool) → can_change c rs ≡ b → (taken cs (left_by c rs) ≡ Some mid → taken (cs ++ ds) (left_by c rs) ≡ taken ds mid) → taken (c ∷ (cs ++ ds)) rs ≡ taken ds mid
    go true e more = rw e (more (rw e at h))
    go false e more = let n : None ≡ Some mid = rw e at h in absurd (never n)
      where
        never : None ≡ Some mid → ⊥
        never w = cc

pub held_both : (k : Kernel) (numbers more : List ℕ) (commits others : List (List Change)) → AreHeld k numbers commits → AreHeld k more others → AreHeld k (numbers ++ more) (commits ++ others)
held_both k [] more [] others h g = g
held_both k [] more (cs ∷ commits) others h g = absurd h
held_both k (s ∷ numbers) more [] others h g = absurd h
held_both k (s ∷ numbers) more (cs ∷ commits) others h g = (h.0, held_both k numbers more commits others h.1 g)

-- a kernel after one commit of the batch
module _ (k0 k : Kernel) (x : Session) (rest : List ℕ) (sound : Bare (as_if k0 (x.txn.session ∷ rest) k)) (sound' : Bare (as_if k0 rest (placed_found (Some x) k))) (here : Among x k.sessions) where
  still : (y : Session) → Among y k.sessions → y.txn.session ≢ x.txn.session → StaysSame (with_change x.txn.session at_place k.sessions) (entries_in k) (entries_in (placed_found (Some x) k)) y
  still y j apart = record {
    stands = among-found (with_change x.txn.session at_place k.sessions) sound'.sessions.ascending y (others-among x.txn.session at_place k.sessions y j apart);
    same = subst (IsPermutation (changes_of y.txn.number (entries_in k)))
        (sym
        (ap (changes_of y.txn.number) (entries_of_with (settled x.txn.number) (settled-keeps x.txn.number) k.tree)
        ∙ changes_settled y.txn.number x.txn.number (entries_in k) (marks_apart (as_if k0 (x.txn.session ∷ rest) k) x y sound here j apart)))
        (IsPermutation-refl (changes_of y.txn.number (entries_in k)));
  }

  other : (y : Session) → Among y.txn.session (rest ++ k.queue) → y.txn.session ≢ x.txn.session
  other y i e = distinct-out x.txn.session (rest ++ k.queue) sound.queued.once (subst (λ n. Among n (rest ++ k.queue)) e i)

  others_hold : (s : ℕ) (cs : List Change) → Among s (rest ++ k.queue) → HasChanges k.sessions (entries_in k) s cs → HasChanges (with_change x.txn.session at_place k.sessions) (entries_in (placed_found (Some x) k)) s cs
  others_hold s cs i h =
      let f = found-among s k.sessions h.session h.at in
      changes_stay k.sessions (with_change x.txn.session at_place k.sessions) (entries_in k) (entries_in (placed_found (Some x) k)) s cs h f.1
      (still h.session f.0 (other h.session (subst (λ (n : ℕ). Among n (rest ++ k.queue)) (sym f.1) i)))

record NextPlaced (k0 k : Kernel) (rest : List ℕ) (x : Session) : Type 0 where
  here : Among x k.sessions
  active : is_active x ≡ true
  before : Bare (as_if k0 (x.txn.session ∷ rest) k)
  after : Bare (as_if k0 rest (placed_found (Some x) k))
  stay : StayDead (entries_in k0) (entries_in (placed_found (Some x) k))

next_placed : (k0 k : Kernel) (s : ℕ) (rest : List ℕ) → DeadListed k0.dead (entries_in k0) → StayDead (entries_in k0) (entries_in k) → Bare (as_if k0 (s ∷ rest) k) → (x : Session) → session_at s k.sessions ≡ Some x → NextPlaced k0 k rest x
next_placed k0 k s rest listed stay sound x at =
    let f = found-among s k.sessions x at in
    let first = sound.queued.back s (inl refl) in
    let same : first.0 ≡ x = one-session k.sessions sound.sessions.ascending first.0 x first.1 f.0 (first.2 ∙ sym f.1) in
    let next = subst (λ (o : Option Session). Bare (as_if k0 rest (placed_found o k)) × StayDead (entries_in k0) (entries_in (placed_found o k))) at (place_next k0 k s rest listed stay sound) in
    record {
      here = f.0;
      active = queued-active x.stage (subst (λ (z : Session). is_queued z.stage ≡ true) same first.3);
      before = subst (λ (n : ℕ). Bare (as_if k0 (n ∷ rest) k)) (sym f.1) sound;
      after = next.0;
      stay = next.1;
    }

first_applies : (k0 k : Kernel) (s : ℕ) (rest : List ℕ) → Bare (as_if k0 (s ∷ rest) k) → (x : Session) (cs : List Change) → Among x k.sessions → is_active x ≡ true → AreChanges (entries_in k) x.txn.number cs
    → taken cs (live (entries_in k)) ≡ Some (live (entries_in (placed_found (Some x) k)))
first_applies k0 k s rest sound x cs here active are =
    changes_settle (as_if k0 (s ∷ rest) k) sound x cs here active are ∙ ap (λ (es : List Entry). Some (live es)) (sym (entries_of_with (settled x.txn.number) (settled-keeps x.txn.number) k.tree))

-- the changes of a batch, made in order, leave what its commits leave
batch_applies : (k0 k : Kernel) (batch : List ℕ) (commits : List (List Change)) → DeadListed k0.dead (entries_in k0) → StayDead (entries_in k0) (entries_in k) → Bare (as_if k0 batch k) → AreHeld k batch commits
    → taken (all_changes commits) (live (entries_in k)) ≡ Some (live (entries_in (placed_each batch k)))
batch_applies k0 k [] [] listed stay sound held = refl
batch_applies k0 k [] (cs ∷ commits) listed stay sound held = absurd held
batch_applies k0 k (s ∷ rest) [] listed stay sound held = absurd held
batch_applies k0 k (s ∷ rest) (cs ∷ commits) listed stay sound held =
    let x = held.0.session in
    let n = next_placed k0 k s rest listed stay sound x held.0.at in
    let more = batch_applies k0 (placed_found (Some x) k) rest commits listed n.stay n.after (all_stay k (placed_found (Some x) k) rest commits (λ m ds i. others_hold k0 k x rest n.before n.after n.here m ds (among_left m rest k.queue i)) held.1) in
    subst (λ (o : Option Session). taken (cs ++ all_changes commits) (live (entries_in k)) ≡ Some (live (entries_in (placed_each rest (placed_found o k))))) (sym held.0.at)
    (taken_both cs (all_changes commits) (live (entries_in k)) (live (entries_in (placed_found (Some x) k))) (first_applies k0 k s rest sound x cs n.here n.active held.0.are) ∙ more)

-- what is queued stays so while a batch takes its places
each_stays : (k0 k : Kernel) (batch : List ℕ) → DeadListed k0.dead (entries_in k0) → StayDead (entries_in k0) (entries_in k) → Bare (as_if k0 batch k)
    → (y : Session) → session_at y.txn.session k.sessions ≡ Some y → Among y.txn.session k.queue → StaysSame (placed_each batch k).sessions (entries_in k) (entries_in (placed_each batch k)) y
each_stays k0 k [] listed stay sound y at i = record { stands = at; same = IsPermutation-refl (changes_of y.txn.number (entries_in k)) }
each_stays k0 k (s ∷ rest) listed stay sound y at i =
    let b = sound.queued.back s (inl refl) in
    let here : session_at s k.sessions ≡ Some b.0 = subst (λ (n : ℕ). session_at n k.sessions ≡ Some b.0) b.2 (among-found k.sessions sound.sessions.ascending b.0 b.1) in
    let n = next_placed k0 k s rest listed stay sound b.0 here in
    let first = still k0 k b.0 rest n.before n.after n.here y (found-among y.txn.session k.sessions y at).0 (other k0 k b.0 rest n.before n.after n.here y (among_right y.txn.session rest k.queue i)) in
    let more = each_stays k0 (placed_found (Some b.0) k) rest listed n.stay n.after y first.stands i in
    subst (λ (o : Option Session). StaysSame (placed_each rest (placed_found o k)).sessions (entries_in k) (entries_in (placed_each rest (placed_found o k))) y) (sym here)
    (record {
      stands = more.stands;
      same = IsPermutation-trans (changes_of y.txn.number (entries_in k)) (changes_of y.txn.number (entries_in (placed_found (Some b.0) k))) (changes_of y.txn.number (entries_in (placed_each rest (placed_found (Some b.0) k)))) first.same more.same;
    })

pub same_queue : (batch : List ℕ) (k : Kernel) → (placed_each batch k).queue ≡ k.queue
same_queue [] k = refl
same_queue (s ∷ rest) k = same_queue rest (placed_found (session_at s k.sessions) k) ∙ go (session_at s k.sessions)
  where
    go : (o : Option Session) → (placed_found o k).queue ≡ k.queue
    go None = refl
    go (Some x) = refl

-- after the batch
pub placed_stays : (k : Kernel) → Bare k → (y : Session) → session_at y.txn.session k.sessions ≡ Some y → Among y.txn.session k.queue → StaysSame (placed_all k).sessions (entries_in k) (entries_in (placed_all k)) y
placed_stays k sound = each_stays k k k.flight sound.dead (λ n i. i) (batch-sound k sound)

pub queue_stays_placed : (k : Kernel) (commits : List (List Change)) → Bare k → AreHeld k k.queue commits → AreHeld (placed_all k) (placed_all k).queue commits
queue_stays_placed k commits sound held =
    subst (λ (ns : List ℕ). AreHeld (placed_all k) ns commits) (sym (same_queue k.flight k))
    (all_stay k (placed_all k) k.queue commits
    (λ s cs i h. let f = found-among s k.sessions h.session h.at in
    changes_stay k.sessions (placed_all k).sessions (entries_in k) (entries_in (placed_all k)) s cs h f.1
    (placed_stays k sound h.session (subst (λ (n : ℕ). session_at n k.sessions ≡ Some h.session) (sym f.1) h.at) (subst (λ (n : ℕ). Among n k.queue) (sym f.1) i)))
    held)

-- of a sound kernel, the batch in flight
pub flight_applies : (k : Kernel) (commits : List (List Change)) → Bare k → AreHeld k k.flight commits → taken (all_changes commits) (live (entries_in k)) ≡ Some (live (entries_in (placed_all k)))
flight_applies k commits sound held = batch_applies k k k.flight commits sound.dead (λ n i. i) (batch-sound k sound) held

calls_fit : (flight : List ℕ) → (calls_for flight < 4) × (flight ≢ [] → 1 ≤ calls_for flight) × (flight ≡ [] → calls_for flight ≡ 0)
calls_fit [] = (omega arith, λ h. absurd (h refl), λ h. refl)
calls_fit (n ∷ ns) = (omega arith, λ h. omega arith, λ h. absurd (some h))
  where
    some : n ∷ ns ≡ [] → ⊥
    some h = cc

-- as if the queue were in flight, behind the batch
abbrev unqueued : Kernel → Kernel
unqueued k = record k { queue = [] }

together-sound : (k : Kernel) → Bare k → Bare (as_if (unqueued k) (k.flight ++ k.queue) (unqueued k))
together-sound k sound =
    listed-sound k (k.dead ++ newly_dead (entries_in k) (entries_in k)) [] (k.flight ++ k.queue) (calls_for (k.flight ++ k.queue)) sound
    (dead_grows k.dead (entries_in k) (entries_in k) sound.valid.distinct_entries (λ n i. i) sound.dead)
    (record {
      once = subst (IsDistinct nat_eq) (sym (append-nil (k.flight ++ k.queue))) sound.queued.once;
      there = λ x i q. subst (Among x.txn.session) (sym (append-nil (k.flight ++ k.queue))) (sound.queued.there x i q);
      back = λ s i. sound.queued.back s (subst (Among s) (append-nil (k.flight ++ k.queue)) i);
      calls_few = (calls_fit (k.flight ++ k.queue)).0;
      begun = (calls_fit (k.flight ++ k.queue)).1;
      none = (calls_fit (k.flight ++ k.queue)).2;
    })

-- and the queue behind it
pub queue_applies : (k : Kernel) (flight queued : List (List Change)) → Bare k → AreHeld k k.flight flight → AreHeld k k.queue queued
    → (records : List Record) × (taken (all_changes (flight ++ queued)) (live (entries_in k)) ≡ Some records)
queue_applies k flight queued sound held waiting =
    let all : AreHeld k (k.flight ++ k.queue) (flight ++ queued) = held_both k k.flight k.queue flight queued held waiting in
    (live (entries_in (placed_each (k.flight ++ k.queue) (unqueued k))), batch_applies (unqueued k) (unqueued k) (k.flight ++ k.queue) (flight ++ queued) sound.dead (λ n i. i) (together-sound k sound) all)

-- a transaction that joins the queue
module _ (k : Kernel) (x : Session) (sound : Bare k) (here : Among x k.sessions) (idle : x.stage ≡ Idle) where
  pub joins-queued : StayQueued k (queued_up x k)
  joins-queued y i q = record {
    stands = among-found (staged x.txn.session Queued k.sessions) (queued_up-sound k x sound here idle).sessions.ascending y
        (others-among x.txn.session (at_stage Queued) k.sessions y i (queued-other x y (ap is_queued idle) q k.sessions here i (one-session k.sessions sound.sessions.ascending)));
    same = IsPermutation-refl (changes_of y.txn.number (entries_in k));
  }

-- with its changes, behind those that are held
module _ (k : Kernel) (x : Session) (changes : List Change) (sound : Bare k) (here : Among x k.sessions) (idle : x.stage ≡ Idle) (are : AreChanges (entries_in k) x.txn.number changes) where
  pub joined : (queued : List (List Change)) → AreHeld k k.queue queued → AreHeld (queued_up x k) (k.queue ++ x.txn.session ∷ []) (queued ++ changes ∷ [])
  joined queued waiting = held_both (queued_up x k) k.queue (x.txn.session ∷ []) queued (changes ∷ []) (queue_stays k (queued_up x k) sound (joins-queued k x sound here idle) queued waiting) (
    record {
      session = at_stage Queued x;
      at = among-found (staged x.txn.session Queued k.sessions) (queued_up-sound k x sound here idle).sessions.ascending (at_stage Queued x) (changed-among x.txn.session (at_stage Queued) k.sessions x here refl);
      are = are;
    },
    tt,
  )

  pub flight_joined : (flight : List (List Change)) → AreHeld k k.flight flight → AreHeld (queued_up x k) k.flight flight
  flight_joined flight held = flight_stays k (queued_up x k) sound (joins-queued k x sound here idle) flight held

  pub one_more_applies : (flight queued : List (List Change)) → AreHeld k k.flight flight → AreHeld k k.queue queued → (records : List Record) × (taken (all_changes (flight ++ (queued ++ changes ∷ []))) (live (entries_in k)) ≡ Some records)
  one_more_applies flight queued held waiting = queue_applies (queued_up x k) flight (queued ++ changes ∷ []) (queued_up-sound k x sound here idle) (flight_joined flight held) (joined queued waiting)
