-- Every event leaves nothing of an active transaction on a dead entry.
use Rattle.std.proofs.Common.{◌≡◌, ◌≢◌, ◌⊎◌, ℕ, ◌≤◌, Bool, true, false, not, cond, ◌&&◌, ◌||◌, List, [], ◌∷◌, map, length, Option, None, Some, refl, sym, ap, ◌∙◌, subst, inl, inr, true≢false, arith}
use Rattle.sp_rect.specs.declared.operation.Op.{Op}
use Rattle.sp_rect.specs.declared.operation.Op.TheVariants.{Put, Drop, Set, Get, Find, Fill, Clear}
use Rattle.sp_rect.specs.Store.{Part, Id, Area, touches}
use Rattle.sp_locks.specs.declared.mode.Mode.{Mode}
use Rattle.sp_locks.specs.declared.row.Name.{Name}
use Rattle.sp_locks.specs.declared.row.Duration.{Duration}
use Rattle.sp_locks.specs.declared.row.Duration.TheVariants.{Commit as ToTheEnd}
use Rattle.sp_node.specs.declared.node.Entry.{Entry}
use Rattle.sp_node.specs.Among.{Among}
use Rattle.sp_node.specs.Change.{table_with, Keeps}
use Rattle.sp_node.specs.Marks.{is_committed, is_made_by, is_ended_by, is_done, marked, settled, undone}
use Rattle.sp_node.specs.Table.{Table, entries_of}
use Rattle.sp_node.proofs.Changed.{entries_of_with}
use Rattle.sp_txn.specs.Visible.{record_for}
use Rattle.sp_event.specs.declared.event.Event.TheVariants.{Begin, Start, Name as AskName, Plan, Ask, Apply, Commit as AskCommit, Flush, Rollback, Clean}
use Rattle.sp_event.specs.declared.answer.Answer.{Answer}
use Rattle.sp_protection.specs.Effects.{is_seen_in, is_changed, ended_by, drafted_by, marks_by, marked_by, fresh}
use Rattle.sp_protection.proofs.Leaves.{from_map}
use Rattle.sp_model.specs.declared.session.Session.{Session}
use Rattle.sp_model.specs.declared.session.Stage.{Stage}
use Rattle.sp_model.specs.declared.session.Stage.TheVariants.{Idle, Started, NameWait, Named, NeedWait, Planned, Queued, Placed}
use Rattle.sp_model.specs.State.{Kernel, entries_in, is_active, is_active_stage, session_at, sessions_without, with_session, with_change, at_stage, staged}
use Rattle.sp_model.specs.Refusals.{refusal, turned_away}
use Rattle.sp_model.specs.Moves.{Requests, lengthened, at_place, placed_found, placed_each}
use Rattle.sp_model.specs.Plans.{left_to_ask}
use Rattle.sp_model.specs.Removal.{RemovesOne}
use Rattle.sp_model.specs.Stepped.{Does, IsAt, reply_of}
use Rattle.sp_model.specs.Unmarked.{IsUntouched, DeadUntouched, IsDeadUntouched}
use Rattle.sp_model.specs.Soundness.{DeadListed}
use Rattle.sp_model.proofs.Bare.{Bare}
use Rattle.sp_model.proofs.Sessions.{one-session, found-among, Fate, Changes, Stays, of_change, of_without, of_with}
use Rattle.sp_model.proofs.Turned.{is_let, may_start}
use Rattle.sp_model.proofs.Dead.{StayDead}
use Rattle.sp_model.proofs.Entering.{grown_only}
use Rattle.sp_model.proofs.Settling.{undone-keeps, settled-keeps, undone-free, settled-free}
use Rattle.sp_model.proofs.Ends.{rollback-active}
use Rattle.sp_model.proofs.Flushing.{as_if, batch-sound, place_next}
use Rattle.sp_model.proofs.Untouched.{untouched-from, untouched-ended, undone-newly, settled-newly}

-- an active session that changes was one before
module _ (s : ℕ) (change : Session → Session) (number : (z : Session) → (change z).txn.number ≡ z.txn.number) (xs : List Session) (at : (z : Session) → Among z xs → z.txn.session ≡ s → is_active z ≡ true) where
  pub origin : (y : Session) → Among y (with_change s change xs) → is_active y ≡ true → (z : Session) × Among z xs × (is_active z ≡ true) × (z.txn.number ≡ y.txn.number)
  origin y i active = let o = of_change s change xs y i in go o.old y o.stood o.how active
    where
      go : (z y : Session) → Among z xs → Fate s change z y → is_active y ≡ true → (w : Session) × Among w xs × (is_active w ≡ true) × (w.txn.number ≡ y.txn.number)
      go z _ j (Changes e) a = (z, j, at z j e, sym (number z))
      go z _ j (Stays e) a = (z, j, a, refl)

-- entries that stay
same_dead : (es : List Entry) (e : Entry) → Among e es → is_done e.marks.ended ≡ true → (o : Entry) × Among o es × (is_done o.marks.ended ≡ true) × ((t : ℕ) → IsUntouched t o → IsUntouched t e)
same_dead es e i d = (e, i, d, λ t h. h)

-- an operation marks what is not dead, and lets nothing die
pub marks_alive : (t : ℕ) (op : Op) (e : Entry) → is_done (marked_by t op e).marks.ended ≡ true → (is_done e.marks.ended ≡ true) × (marked_by t op e ≡ e)
marks_alive t op e = go op
  where
    alive : (c m x d b : Bool) → (((c || m) && not (x || d)) && b) ≡ true → d ≡ true → ⊥
    alive c m x d b h k = grind arith

    ends : (b : Bool) → is_done (cond b (marked (ended_by t e.marks) e) e).marks.ended ≡ true → (is_done e.marks.ended ≡ true) × (cond b (marked (ended_by t e.marks) e) e ≡ e)
    ends true d = absurd (true≢false (sym d))
    ends false d = (d, refl)

    drafts : (part : Part) (value : List ℕ) (b : Bool) → is_seen_in t part e ≡ b → is_done (cond b (marked (drafted_by t value e.marks) e) e).marks.ended ≡ true → (is_done e.marks.ended ≡ true) × (cond b (marked (drafted_by t value e.marks) e) e ≡ e)
    drafts part value true k d = absurd (alive (is_committed e.marks.made) (is_made_by t e.marks.made) (is_ended_by t e.marks.ended) (is_done e.marks.ended) (touches part (record_for t e)) k d)
    drafts part value false k d = (d, refl)

    go : (o : Op) → is_done (marked_by t o e).marks.ended ≡ true → (is_done e.marks.ended ≡ true) × (marked_by t o e ≡ e)
    go (Put r) d = (d, refl)
    go (Drop id) d = ends (is_seen_in t (Id id) e) d
    go (Set id value) d = drafts (Id id) value (is_seen_in t (Id id) e) refl d
    go (Get id) d = (d, refl)
    go (Find rect) d = (d, refl)
    go (Fill rect value) d = drafts (Area rect) value (is_seen_in t (Area rect) e) refl d
    go (Clear rect) d = ends (is_seen_in t (Area rect) e) d

marked_dead : (t : ℕ) (op : Op) (es : List Entry) (e : Entry) → Among e (map (marked_by t op) es) → is_done e.marks.ended ≡ true → (o : Entry) × Among o es × (is_done o.marks.ended ≡ true) × ((u : ℕ) → IsUntouched u o → IsUntouched u e)
marked_dead t op es e i d =
    let r = from_map (marked_by t op) e es i in
    let a = marks_alive t op r.0 (subst (λ (z : Entry). is_done z.marks.ended ≡ true) (sym r.2) d) in
    (r.0, r.1, a.0, λ u h. subst (IsUntouched u) (sym a.1 ∙ r.2) h)

pub marks_keep : (t : ℕ) (op : Op) → Keeps (marked_by t op)
marks_keep t op = record { number = λ e. number e (is_changed t op e); id = λ e. id e (is_changed t op e); rect = λ e. rect e (is_changed t op e) }
  where
    number : (e : Entry) (b : Bool) → (cond b (marked (marks_by t op e.marks) e) e).number ≡ e.number
    number e true = refl
    number e false = refl

    id : (e : Entry) (b : Bool) → (cond b (marked (marks_by t op e.marks) e) e).id ≡ e.id
    id e true = refl
    id e false = refl

    rect : (e : Entry) (b : Bool) → (cond b (marked (marks_by t op e.marks) e) e).rect ≡ e.rect
    rect e true = refl
    rect e false = refl

module _ (k : Kernel) (sound : Bare k) (dead : IsDeadUntouched k) where
  -- an active session that is found
  module _ (s : ℕ) (x : Session) (found : IsAt k s x) (active : is_active x ≡ true) where
    here : Among x k.sessions
    here = (found-among s k.sessions x found).0

    named : x.txn.session ≡ s
    named = (found-among s k.sessions x found).1

    at : (z : Session) → Among z k.sessions → z.txn.session ≡ s → is_active z ≡ true
    at z i e = subst (λ (w : Session). is_active w ≡ true) (sym (one-session k.sessions sound.sessions.ascending z x i here (e ∙ sym named))) active

    -- it goes on at another stage
    pub dead-staged : (stage : Stage) → DeadUntouched (staged s stage k.sessions) (entries_in k)
    dead-staged stage = untouched-from k.sessions (staged s stage k.sessions) (entries_in k) (entries_in k) (origin s (at_stage stage) (λ z. refl) k.sessions at) (same_dead (entries_in k)) dead

    -- its operation is kept, and over
    pub dead-kept : (stage : Stage) (change : Session → Session) (es : List Entry) → ((z : Session) → (change z).txn.number ≡ z.txn.number) → ((z : Session) → (change z).stage ≡ z.stage)
        → ((e : Entry) → Among e es → is_done e.marks.ended ≡ true → (o : Entry) × Among o (entries_in k) × (is_done o.marks.ended ≡ true) × ((u : ℕ) → IsUntouched u o → IsUntouched u e))
        → DeadUntouched (staged s stage (with_change s change k.sessions)) es
    dead-kept stage change es number same stood = untouched-from k.sessions (staged s stage (with_change s change k.sessions)) (entries_in k) es was stood dead
      where
        at' : (z : Session) → Among z (with_change s change k.sessions) → z.txn.session ≡ s → is_active z ≡ true
        at' z i e = let o = of_change s change k.sessions z i in go o.old z o.stood o.how e
          where
            go : (w z : Session) → Among w k.sessions → Fate s change w z → z.txn.session ≡ s → is_active z ≡ true
            go w _ j (Changes e) f = ap is_active_stage (same w) ∙ at w j e
            go w _ j (Stays e) f = absurd (e f)

        was : (y : Session) → Among y (staged s stage (with_change s change k.sessions)) → is_active y ≡ true → (z : Session) × Among z k.sessions × (is_active z ≡ true) × (z.txn.number ≡ y.txn.number)
        was y i a =
            let m = origin s (at_stage stage) (λ z. refl) (with_change s change k.sessions) at' y i a in
            let n = origin s change number k.sessions at m.0 m.1 m.2 in
            (n.0, n.1, n.2, n.3 ∙ m.3)

    -- its transaction ends
    pub dead-undone : DeadUntouched (sessions_without x.txn.session k.sessions) (map (undone x.txn.number) (entries_in k))
    dead-undone = untouched-ended k x (undone x.txn.number) sound here dead (undone-free x.txn.number) (undone-newly x.txn.number) (sessions_without x.txn.session k.sessions) (λ y i a. of_without x.txn.session k.sessions y i)

    pub dead-settled : DeadUntouched (sessions_without x.txn.session k.sessions) (map (settled x.txn.number) (entries_in k))
    dead-settled = untouched-ended k x (settled x.txn.number) sound here dead (settled-free x.txn.number) (settled-newly x.txn.number) (sessions_without x.txn.session k.sessions) (λ y i a. of_without x.txn.session k.sessions y i)

    requests : (name : Name) (mode : Mode) (duration : Duration) (granted waits : Stage) (answer : Answer) (after : Kernel) → Requests k x name mode duration granted waits answer after → IsDeadUntouched after
    requests name mode duration granted waits _ _ (Requests.IsGranted free) = subst (λ (n : ℕ). DeadUntouched (staged n granted k.sessions) (entries_in k)) (sym named) (dead-staged granted)
    requests name mode duration granted waits _ _ (Requests.HasToWait some told) = subst (λ (n : ℕ). DeadUntouched (staged n waits k.sessions) (entries_in k)) (sym named) (dead-staged waits)
    requests name mode duration granted waits _ _ (Requests.ClosesCycle cycle some told) = subst (DeadUntouched (sessions_without x.txn.session k.sessions)) (sym (entries_of_with (undone x.txn.number) (undone-keeps x.txn.number) k.tree)) dead-undone

  -- a begin: its number is on no entry
  dead-begun : (new : Session) → new.txn.number ≡ k.next_txn → DeadUntouched (with_session new k.sessions) (entries_in k)
  dead-begun new number y e i active j d = go (of_with new k.sessions y i)
    where
      go : (y ≡ new) ⊎ Among y k.sessions → IsUntouched y.txn.number e
      go (inl same) = sound.numbers y.txn.number e (subst (λ (n : ℕ). k.next_txn ≤ n) (sym (ap (λ (z : Session). z.txn.number) same ∙ number)) (omega arith)) j
      go (inr old) = dead y e old active j d

  pub begin_untouched : (IsRemoved : Table → ℕ → Table → Type 0) (s : ℕ) (answer : Answer) (after : Kernel) → Does IsRemoved k (Begin s) answer after → IsDeadUntouched after
  begin_untouched IsRemoved s _ _ (Does.Begins _) = dead-begun (record { txn = record { number = k.next_txn; session = s; seen = length k.commits; ops = []; searches = [] }; stage = Idle }) refl

  pub start_untouched : (IsRemoved : Table → ℕ → Table → Type 0) (s : ℕ) (op : Op) (answer : Answer) (after : Kernel) → turned_away k (Start s op) ≡ None → Does IsRemoved k (Start s op) answer after → IsDeadUntouched after
  start_untouched IsRemoved s op _ _ free (Does.Starts _ x _ found in_space) = dead-staged s x found (ap is_active_stage (may_start k s op x found free).idle) (Started op)

  pub name_untouched : (IsRemoved : Table → ℕ → Table → Type 0) (s : ℕ) (answer : Answer) (after : Kernel) → Does IsRemoved k (AskName s) answer after → IsDeadUntouched after
  name_untouched IsRemoved s _ _ (Does.NamesNothing _ x op found started none) = dead-staged s x found (ap is_active_stage started) (Named op)
  name_untouched IsRemoved s answer after (Does.Names _ x op name mode _ _ found started asked asks) = requests s x found (ap is_active_stage started) name mode ToTheEnd (Named op) (NameWait op) answer after asks
  name_untouched IsRemoved s _ _ (Does.HasWaited _ x op found waited) = dead-staged s x found (ap is_active_stage waited) (Named op)

  pub plan_untouched : (IsRemoved : Table → ℕ → Table → Type 0) (s : ℕ) (answer : Answer) (after : Kernel) → Does IsRemoved k (Plan s) answer after → IsDeadUntouched after
  plan_untouched IsRemoved s _ _ (Does.Plans _ x op commit short found named needs) = dead-staged s x found (active named) (Planned op (left_to_ask k.locks s commit short))
    where
      active : (x.stage ≡ Named op) ⊎ (x.stage ≡ NeedWait op) → is_active x ≡ true
      active (inl e) = ap is_active_stage e
      active (inr e) = ap is_active_stage e

  pub ask_untouched : (IsRemoved : Table → ℕ → Table → Type 0) (s : ℕ) (answer : Answer) (after : Kernel) → Does IsRemoved k (Ask s) answer after → IsDeadUntouched after
  ask_untouched IsRemoved s answer after (Does.Asks _ x op need left _ _ found planned asks) = requests s x found (ap is_active_stage planned) need.name need.mode need.duration (Planned op left) (NeedWait op) answer after asks

  -- an operation
  pub apply_untouched : (IsRemoved : Table → ℕ → Table → Type 0) (s : ℕ) (answer : Answer) (after : Kernel)
      → Does IsRemoved k (Apply s) answer after → IsDeadUntouched after
  apply_untouched IsRemoved s _ _ (Does.FullOfEntries _ x op found planned adds passes) = subst (λ (n : ℕ). DeadUntouched (staged n Idle k.sessions) (entries_in k)) (sym (found-among s k.sessions x found).1) (dead-staged s x found (ap is_active_stage planned) Idle)
  apply_untouched IsRemoved s _ _ (Does.FullOfNumbers _ x r after chosen found planned adds few inserts passes) = subst (λ (n : ℕ). DeadUntouched (staged n Idle k.sessions) (entries_in k)) (sym (found-among s k.sessions x found).1) (dead-staged s x found (ap is_active_stage planned) Idle)
  apply_untouched IsRemoved s _ _ (Does.FullOfReplies _ x op found planned passes) = subst (λ (n : ℕ). DeadUntouched (staged n Idle k.sessions) (entries_in k)) (sym (found-among s k.sessions x found).1) (dead-staged s x found (ap is_active_stage planned) Idle)
  apply_untouched IsRemoved s _ _ (Does.Applies _ x op found planned plain few) =
      let es = entries_in (record k { tree = table_with (marked_by x.txn.number op) k.tree }) in
      let change = lengthened op (reply_of k x op) in
      subst (λ (n : ℕ). DeadUntouched (staged n Idle (with_change n change k.sessions)) es) (sym (found-among s k.sessions x found).1)
      (dead-kept s x found (ap is_active_stage planned) Idle change es (λ z. refl) (λ z. refl)
      (subst (λ (fs : List Entry). (e : Entry) → Among e fs → is_done e.marks.ended ≡ true → (o : Entry) × Among o (entries_in k) × (is_done o.marks.ended ≡ true) × ((u : ℕ) → IsUntouched u o → IsUntouched u e))
      (sym (entries_of_with (marked_by x.txn.number op) (marks_keep x.txn.number op) k.tree)) (marked_dead x.txn.number op (entries_in k))))
  apply_untouched IsRemoved s _ _ (Does.Inserts_entry _ x r after chosen gifts found planned adds few inserts numbers given) =
      let change = lengthened (Put r) (reply_of k x (Put r)) in
      subst (λ (n : ℕ). DeadUntouched (staged n Idle (with_change n change k.sessions)) (entries_of after)) (sym (found-among s k.sessions x found).1)
      (dead-kept s x found (ap is_active_stage planned) Idle change (entries_of after) (λ z. refl) (λ z. refl) (λ e i d. old e d (grown_only k.tree (fresh x.txn.number k.next_entry r) after inserts.inserted.grown e i)))
    where
      old : (e : Entry) → is_done e.marks.ended ≡ true → (e ≡ fresh x.txn.number k.next_entry r) ⊎ Among e (entries_in k) → (o : Entry) × Among o (entries_in k) × (is_done o.marks.ended ≡ true) × ((u : ℕ) → IsUntouched u o → IsUntouched u e)
      old e d (inl new) = absurd (true≢false (sym d ∙ ap (λ (z : Entry). is_done z.marks.ended) new))
      old e d (inr i) = (e, i, d, λ u h. h)

  pub commit_untouched : (IsRemoved : Table → ℕ → Table → Type 0) (s : ℕ) (answer : Answer) (after : Kernel) → Does IsRemoved k (AskCommit s) answer after → IsDeadUntouched after
  commit_untouched IsRemoved s _ _ (Does.Commits _ x found idle none) =
      subst (DeadUntouched (sessions_without x.txn.session k.sessions)) (sym (entries_of_with (settled x.txn.number) (settled-keeps x.txn.number) k.tree)) (dead-settled s x found (ap is_active_stage idle))
  commit_untouched IsRemoved s _ _ (Does.JoinsQueue _ x found idle some) = dead-staged s x found (ap is_active_stage idle) Queued
  commit_untouched IsRemoved s _ _ (Does.StaysQueued _ x found queued) = dead
  commit_untouched IsRemoved s _ _ (Does.TellsPlace _ x found placed) = λ y e i active j d. dead y e (of_without s k.sessions y i).0 active j d

  pub rollback_untouched : (IsRemoved : Table → ℕ → Table → Type 0) (s : ℕ) (answer : Answer) (after : Kernel) → turned_away k (Rollback s) ≡ None → Does IsRemoved k (Rollback s) answer after → IsDeadUntouched after
  rollback_untouched IsRemoved s _ _ free (Does.RollsBack _ x found) =
      subst (DeadUntouched (sessions_without x.txn.session k.sessions)) (sym (entries_of_with (undone x.txn.number) (undone-keeps x.txn.number) k.tree))
      (dead-undone s x found (rollback-active x.stage (subst (λ (o : Option Session). refusal (Rollback s) o ≡ None) found (is_let k (Rollback s) free).refusal)).0)

  pub clean_untouched : (IsRemoved : Table → ℕ → Table → Type 0) (answer : Answer) (after : Kernel) → RemovesOne IsRemoved → Does IsRemoved k Clean answer after → IsDeadUntouched after
  clean_untouched IsRemoved _ _ removes (Does.CleansNothing none) = dead
  clean_untouched IsRemoved _ _ removes (Does.CleanIsFull n rest after first removed full more) = dead
  clean_untouched IsRemoved _ _ removes (Does.Cleans n rest after short may unopposed) = λ y e i active j d.
      dead y e i active ((removes k.tree n after sound.valid sound.ascending sound.counts.node_numbers may.removed).back e j).0 d
  clean_untouched IsRemoved _ _ removes (Does.PutsOff n rest after short granule holder mode may off) = dead

-- one commit of the batch takes its place
next_untouched : (k0 k : Kernel) (s : ℕ) (rest : List ℕ) → Bare (as_if k0 (s ∷ rest) k) → IsDeadUntouched k → IsDeadUntouched (placed_found (session_at s k.sessions) k)
next_untouched k0 k s rest sound dead = go (session_at s k.sessions) refl
  where
    go : (o : Option Session) → session_at s k.sessions ≡ o → IsDeadUntouched (placed_found o k)
    go None e = dead
    go (Some x) e =
        subst (DeadUntouched (with_change x.txn.session at_place k.sessions)) (sym (entries_of_with (settled x.txn.number) (settled-keeps x.txn.number) k.tree))
        (untouched-ended (as_if k0 (s ∷ rest) k) x (settled x.txn.number) sound (found-among s k.sessions x e).0 dead (settled-free x.txn.number) (settled-newly x.txn.number) (with_change x.txn.session at_place k.sessions)
        (λ y i a. let o = of_change x.txn.session at_place k.sessions y i in other x o.old y o.stood o.how a))
      where
        other : (x z y : Session) → Among z k.sessions → Fate x.txn.session at_place z y → is_active y ≡ true → Among y k.sessions × (y.txn.session ≢ x.txn.session)
        other x z _ j (Changes e) a = absurd (true≢false (sym a))
        other x z _ j (Stays e) a = (j, e)

each_untouched : (k0 k : Kernel) (batch : List ℕ) → DeadListed k0.dead (entries_in k0) → StayDead (entries_in k0) (entries_in k) → Bare (as_if k0 batch k) → IsDeadUntouched k → IsDeadUntouched (placed_each batch k)
each_untouched k0 k [] listed stay sound dead = dead
each_untouched k0 k (s ∷ rest) listed stay sound dead =
    let p = place_next k0 k s rest listed stay sound in
    each_untouched k0 (placed_found (session_at s k.sessions) k) rest listed p.1 p.0 (next_untouched k0 k s rest sound dead)

pub flush_untouched : (IsRemoved : Table → ℕ → Table → Type 0) (k : Kernel) (answer : Answer) (after : Kernel) → Bare k → IsDeadUntouched k → Does IsRemoved k Flush answer after → IsDeadUntouched after
flush_untouched IsRemoved k _ _ sound dead (Does.FlushesNothing none empty) = dead
flush_untouched IsRemoved k _ _ sound dead (Does.TakesOff none some) = dead
flush_untouched IsRemoved k _ _ sound dead (Does.Writes some few) = dead
flush_untouched IsRemoved k _ _ sound dead (Does.IsDurable some all) = each_untouched k k k.flight sound.dead (λ n i. i) (batch-sound k sound) dead
