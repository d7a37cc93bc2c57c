-- Requests on a state: what each outcome makes of the kernel.
use Rattle.std.proofs.Common.{◌≡◌, ℕ, ◌+◌, true, List, [], ◌∷◌, Option, Some, None, refl, sym, ap, ◌∙◌, subst, get_or, arith}
use Rattle.std.specs.Prelude.{slice_get, slice_set, Result, Ok, Err, IfOk, OnErr}
use Rattle.std.proofs.lemmas.List.{set-get_or}
use Rattle.sp_rect.specs.declared.operation.Op.{Op}
use Rattle.sp_locks.specs.declared.mode.Mode.{Mode}
use Rattle.sp_locks.specs.declared.row.Name.{Name as OnName}
use Rattle.sp_locks.specs.declared.row.Row.{Row}
use Rattle.sp_locks.specs.declared.row.Duration.TheVariants.{Commit as ToTheEnd}
use Rattle.sp_locks.specs.declared.needs.Need.{Need}
use Rattle.sp_locks.specs.Rows.{waiting_in}
use Rattle.sp_waits.specs.declared.edge.Edge.{Edge}
use Rattle.sp_event.specs.declared.event.Event.{Event}
use Rattle.sp_event.specs.declared.event.Event.TheVariants.{Name, Ask}
use Rattle.sp_event.specs.declared.answer.Answer.{Answer}
use Rattle.sp_event.specs.declared.answer.Answer.TheVariants.{Granted, Waits, Deadlock}
use Rattle.sp_event.specs.declared.answer.Why.{Why}
use Rattle.sp_model.specs.declared.session.Session.{Session}
use Rattle.sp_model.specs.declared.session.Stage.{Stage}
use Rattle.sp_model.specs.declared.session.Stage.TheVariants.{Idle, Started, NameWait, Named, NeedWait, Planned, Queued, Placed}
use Rattle.sp_model.specs.State.{Kernel, is_active, is_active_stage, at_stage, staged, session_at}
use Rattle.sp_model.specs.Refusals.{turned_away, refusal, under_way, name_refused}
use Rattle.sp_model.specs.Moves.{Requests, IsGranted, HasToWait, ClosesCycle, rolled_back, let_short_go, with_ended}
use Rattle.sp_model.specs.Plans.{object_of}
use Rattle.sp_model.specs.Removal.{IsTakenOut}
use Rattle.sp_model.specs.Stepped.{Does, NamesNothing, Names, HasWaited, Asks}
use Rattle.sp_model.specs.Soundness.{Sound}
use Rattle.sp_model.proofs.Bare.{bare}
use Rattle.sp_model.proofs.Turned.{is_let}
use Rattle.sp_model.proofs.Finishing.{planned-awake}
use Rattle.sp_state.specs.Stages.{named, awaiting_name, asked, awaiting_need}
use Rattle.sp_state.specs.declared.state.State.{State}
use Rattle.sp_state.specs.Held.{kernel_of, Fits}
use Rattle.sp_state.specs.Sketches.{IsSketchOf}
use Rattle.sp_requests.specs.declared.requesting.Outcome.{Outcome}
use Rattle.sp_requests.specs.declared.requesting.Outcome.TheVariants.{Granted as Gets, Waits as HasTo, Closes}
use Rattle.sp_requests.specs.Requested.{blocking, with_lock_of, with_wait_of, IsClosed, ComesTo, IsGranted as IsHeld, HasToWait as IsWaiting, ClosesCycle as IsClosing}
use Rattle.sp_requests.specs.Wanted.{to_the_end, object_need, next_need}
use Rattle.sp_requests.proofs.Seating.{StandsAt, staged-set, staged-fits}

-- where a wait would close a cycle the rows stay
closes-rows : (s : ℕ) (need : Need) (rows after : List Row) (cycle : List Edge) → ComesTo s need rows (Closes cycle) after → after ≡ rows
closes-rows s need rows _ cycle (IsClosing _ blocked closed) = refl

module _ (k : Kernel) (x : Session) (need : Need) (stage waits : Stage) where
  requests-granted : (rows : List Row) → ComesTo x.txn.session need k.locks Gets rows
      → Requests k x need.name need.mode need.duration stage waits Granted (record k { sessions = staged x.txn.session stage k.sessions; locks = rows })
  unfolding blocking with_lock_of
  requests-granted _ (IsHeld free) = IsGranted free

  requests-waits : (rows : List Row) (us : List ℕ) → ComesTo x.txn.session need k.locks (HasTo us) rows
      → Requests k x need.name need.mode need.duration stage waits (Waits need.name need.mode us) (record k { sessions = staged x.txn.session waits k.sessions; locks = rows })
  unfolding blocking with_wait_of IsClosed
  requests-waits _ _ (IsWaiting blocked closed) = HasToWait blocked closed

  requests-closes : (rows : List Row) (cycle : List Edge) → ComesTo x.txn.session need k.locks (Closes cycle) rows
      → Requests k x need.name need.mode need.duration stage waits (Deadlock cycle) (with_ended x.txn.number cycle (rolled_back x (let_short_go x.txn.session k)))
  unfolding blocking IsClosed
  requests-closes _ _ (IsClosing cycle blocked closed) = ClosesCycle cycle blocked closed

-- the operation is started and asks for the lock on its object
record NeedsObject (stage : Stage) (need : Need) : Type 0 where
  op : Op
  started : stage ≡ Started op
  object : object_of op ≡ Some (need.name, need.mode)
  lasts : need.duration ≡ ToTheEnd

needs_object : (stage : Stage) (need : Need) → object_need stage ≡ Some need → NeedsObject stage need
needs_object (Started op) need e = go (object_of op) refl e
  where
    go : (o : Option (OnName × Mode)) → object_of op ≡ o → to_the_end o ≡ Some need → NeedsObject (Started op) need
    go None h f = absurd (none f)
      where
        none : None ≡ Some need → ⊥
        none f = cc
    go (Some (n, m)) h f = let g = one f in record { op = op; started = refl; object = h ∙ ap (λ (d : Need). Some (d.name, d.mode)) g; lasts = sym (ap (λ (d : Need). d.duration) g) }
      where
        one : Some (record { name = n; mode = m; duration = ToTheEnd }) ≡ Some need → record { name = n; mode = m; duration = ToTheEnd } ≡ need
        one f = cc
needs_object Idle need e = cc
needs_object (NameWait op) need e = cc
needs_object (Named op) need e = cc
needs_object (NeedWait op) need e = cc
needs_object (Planned op left) need e = cc
needs_object Queued need e = cc
needs_object Placed need e = cc

-- the operation is planned and this is the first of its needs
record NeedsNext (stage : Stage) (need : Need) : Type 0 where
  op : Op
  left : List Need
  planned : stage ≡ Planned op (need ∷ left)

needs_next : (stage : Stage) (need : Need) → next_need stage ≡ Some need → NeedsNext stage need
needs_next (Planned op []) need e = absurd (none e)
  where
    none : None ≡ Some need → ⊥
    none f = cc
needs_next (Planned op (n ∷ left)) need e = record { op = op; left = left; planned = ap (λ m. Planned op (m ∷ left)) (one e) }
  where
    one : Some n ≡ Some need → n ≡ need
    one f = cc
needs_next Idle need e = cc
needs_next (Started op) need e = cc
needs_next (NameWait op) need e = cc
needs_next (Named op) need e = cc
needs_next (NeedWait op) need e = cc
needs_next Queued need e = cc
needs_next Placed need e = cc

-- a change of stage that keeps what the counts know of it
abbrev pub KeepsCounts : (Stage → Stage) → Type 0
KeepsCounts move = (stage : Stage) → (is_active_stage (move stage) ≡ is_active_stage stage) × (under_way (move stage) ≡ under_way stage)

pub named-keeps : KeepsCounts named
named-keeps Idle = (refl, refl)
named-keeps (Started op) = (refl, refl)
named-keeps (NameWait op) = (refl, refl)
named-keeps (Named op) = (refl, refl)
named-keeps (NeedWait op) = (refl, refl)
named-keeps (Planned op left) = (refl, refl)
named-keeps Queued = (refl, refl)
named-keeps Placed = (refl, refl)

pub awaiting_name-keeps : KeepsCounts awaiting_name
awaiting_name-keeps Idle = (refl, refl)
awaiting_name-keeps (Started op) = (refl, refl)
awaiting_name-keeps (NameWait op) = (refl, refl)
awaiting_name-keeps (Named op) = (refl, refl)
awaiting_name-keeps (NeedWait op) = (refl, refl)
awaiting_name-keeps (Planned op left) = (refl, refl)
awaiting_name-keeps Queued = (refl, refl)
awaiting_name-keeps Placed = (refl, refl)

pub asked-keeps : KeepsCounts asked
asked-keeps Idle = (refl, refl)
asked-keeps (Started op) = (refl, refl)
asked-keeps (NameWait op) = (refl, refl)
asked-keeps (Named op) = (refl, refl)
asked-keeps (NeedWait op) = (refl, refl)
asked-keeps (Planned op left) = (refl, refl)
asked-keeps Queued = (refl, refl)
asked-keeps Placed = (refl, refl)

pub awaiting_need-keeps : KeepsCounts awaiting_need
awaiting_need-keeps Idle = (refl, refl)
awaiting_need-keeps (Started op) = (refl, refl)
awaiting_need-keeps (NameWait op) = (refl, refl)
awaiting_need-keeps (Named op) = (refl, refl)
awaiting_need-keeps (NeedWait op) = (refl, refl)
awaiting_need-keeps (Planned op left) = (refl, refl)
awaiting_need-keeps Queued = (refl, refl)
awaiting_need-keeps Placed = (refl, refl)

pub moved-fits : (move : Stage → Stage) → KeepsCounts move → (a b : State) (s at : ℕ) (x y : Session) → Sound (kernel_of a) → StandsAt s a.seats.items at x → is_active x ≡ true → y ≡ at_stage (move x.stage) x
    → b.seats.items ≡ slice_set a.seats.items at y → b.operations ≡ a.operations → b.records ≡ a.records → b.audit ≡ a.audit → b.tree ≡ a.tree → b.dead ≡ a.dead → IsSketchOf b.tree.table b.sketch → Fits a → Fits b
moved-fits move keeps a b s at x y sound stands active e seats operations =
    staged-fits a b x (move x.stage) sound.sessions.ascending stands.among active ((keeps x.stage).0 ∙ active) (seats ∙ staged-set s a.seats.items at x y (move x.stage) sound.sessions.ascending stands e)
    (same b.operations a.operations (under_way x.stage) (under_way (move x.stage)) operations (keeps x.stage).1)
  where
    same : (n m u v : ℕ) → n ≡ m → v ≡ u → n + u ≡ m + v
    same n m u v e f = omega arith

-- an operation that may ask for its object
name-let : (k : Kernel) (s : ℕ) (x : Session) → session_at s k.sessions ≡ Some x → turned_away k (Name s) ≡ None → name_refused x.stage ≡ None
name-let k s x found goes = subst (λ (o : Option Session). refusal (Name s) o ≡ None) found (is_let k (Name s) goes).refusal

some-why : (why : Why) → Some why ≡ None → ⊥
some-why why e = cc

name-active : (stage : Stage) → name_refused stage ≡ None → is_active_stage stage ≡ true
name-active (Started op) e = refl
name-active (NameWait op) e = refl
name-active Placed e = absurd (some-why _ e)
name-active Idle e = refl
name-active (Named op) e = refl
name-active (NeedWait op) e = refl
name-active (Planned op left) e = refl
name-active Queued e = refl

pub may-name : (k : Kernel) (s at : ℕ) (x : Session) → StandsAt s k.sessions at x → turned_away k (Name s) ≡ None → is_active x ≡ true
may-name k s at x stands goes = name-active x.stage (name-let k s x stands.found goes)

pub may-ask : (x : Session) (need : Need) → next_need x.stage ≡ Some need → is_active x ≡ true
may-ask x need e = ap is_active_stage (needs_next x.stage need e).planned

pub ask-awake : (k : Kernel) (s at : ℕ) (x : Session) (need : Need) → Sound k → StandsAt s k.sessions at x → next_need x.stage ≡ Some need → waiting_in s k.locks ≡ None
ask-awake k s at x need sound stands e =
    let n = needs_next x.stage need e in
    subst (λ m. waiting_in m k.locks ≡ None) stands.is (planned-awake k x n.op (need ∷ n.left) (bare k sound) stands.among n.planned)

-- the session in its place, changed, and the rows
abbrev pub with_seat : Kernel → ℕ → Session → List Row → Kernel
with_seat k at y rows = record k { sessions = slice_set k.sessions at y; locks = rows }

-- an operation that asks for no object, or has waited for it
pub names-nothing : (k : Kernel) (s at : ℕ) (x y : Session) → Sound k → turned_away k (Name s) ≡ None → StandsAt s k.sessions at x → object_need x.stage ≡ None → y ≡ at_stage (named x.stage) x
    → Does IsTakenOut k (Name s) Granted (with_seat k at y k.locks)
names-nothing k s at x y sound goes stands none e =
    subst (λ xs. Does IsTakenOut k (Name s) Granted (record k { sessions = xs })) (sym (staged-set s k.sessions at x y (named x.stage) sound.sessions.ascending stands e ∙ ap (λ n. staged n (named x.stage) k.sessions) stands.is))
    (go x.stage refl (name-let k s x stands.found goes) none)
  where
    wants : (lock : OnName × Mode) → to_the_end (Some lock) ≡ None → ⊥
    wants lock e = cc

    nothing : (op : Op) (o : Option (OnName × Mode)) → object_of op ≡ o → to_the_end o ≡ None → object_of op ≡ None
    nothing op None h f = h
    nothing op (Some lock) h f = absurd (wants lock f)

    go : (stage : Stage) → x.stage ≡ stage → name_refused stage ≡ None → object_need stage ≡ None → Does IsTakenOut k (Name s) Granted (record k { sessions = staged s (named stage) k.sessions })
    go (Started op) h let_in f = NamesNothing s x op stands.found h (nothing op (object_of op) refl f)
    go (NameWait op) h let_in f = HasWaited s x op stands.found h
    go Idle h let_in f = absurd (some-why _ let_in)
    go (Named op) h let_in f = absurd (some-why _ let_in)
    go (NeedWait op) h let_in f = absurd (some-why _ let_in)
    go (Planned op left) h let_in f = absurd (some-why _ let_in)
    go Queued h let_in f = absurd (some-why _ let_in)
    go Placed h let_in f = absurd (some-why _ let_in)

-- what an outcome comes to by the session's own number
of_own : (k : Kernel) (s at : ℕ) (x : Session) (need : Need) (o o' : Outcome) (rows : List Row) → StandsAt s k.sessions at x → o ≡ o' → ComesTo s need k.locks o rows → ComesTo x.txn.session need k.locks o' rows
of_own k s at x need o o' rows stands e comes = subst (λ n. ComesTo n need k.locks o' rows) (sym stands.is) (subst (λ p. ComesTo s need k.locks p rows) e comes)

-- the request of a started operation
names-with : (k : Kernel) (s at : ℕ) (x : Session) (need : Need) (answer : Answer) (after : Kernel) → StandsAt s k.sessions at x → object_need x.stage ≡ Some need
    → Requests k x need.name need.mode need.duration (named x.stage) (awaiting_name x.stage) answer after → Does IsTakenOut k (Name s) answer after
names-with k s at x need answer after stands e r =
    let n = needs_object x.stage need e in
    Names s x n.op need.name need.mode answer after stands.found n.started n.object
    (subst (λ (stage : Stage). Requests k x need.name need.mode ToTheEnd (named stage) (awaiting_name stage) answer after) n.started (subst (λ d. Requests k x need.name need.mode d (named x.stage) (awaiting_name x.stage) answer after) n.lasts r))

asks-with : (k : Kernel) (s at : ℕ) (x : Session) (need : Need) (answer : Answer) (after : Kernel) → StandsAt s k.sessions at x → next_need x.stage ≡ Some need
    → Requests k x need.name need.mode need.duration (asked x.stage) (awaiting_need x.stage) answer after → Does IsTakenOut k (Ask s) answer after
asks-with k s at x need answer after stands e r =
    let n = needs_next x.stage need e in
    Asks s x n.op need n.left answer after stands.found n.planned (subst (λ (stage : Stage). Requests k x need.name need.mode need.duration (asked stage) (awaiting_need stage) answer after) n.planned r)

module _ (k : Kernel) (s at : ℕ) (x y : Session) (need : Need) (o : Outcome) (rows : List Row) (sound : Sound k) (stands : StandsAt s k.sessions at x) (comes : ComesTo s need k.locks o rows) where
  moved : (move : Stage → Stage) → y ≡ at_stage (move x.stage) x → staged x.txn.session (move x.stage) k.sessions ≡ slice_set k.sessions at y
  moved move e = sym (staged-set s k.sessions at x y (move x.stage) sound.sessions.ascending stands e)

  granted : (stage waits : Stage) → o ≡ Gets → staged x.txn.session stage k.sessions ≡ slice_set k.sessions at y → Requests k x need.name need.mode need.duration stage waits Granted (with_seat k at y rows)
  granted stage waits is e = subst (λ xs. Requests k x need.name need.mode need.duration stage waits Granted (record k { sessions = xs; locks = rows })) e (requests-granted k x need stage waits rows (of_own k s at x need o Gets rows stands is comes))

  has_to_wait : (stage waits : Stage) (us : List ℕ) → o ≡ HasTo us → staged x.txn.session waits k.sessions ≡ slice_set k.sessions at y → Requests k x need.name need.mode need.duration stage waits (Waits need.name need.mode us) (with_seat k at y rows)
  has_to_wait stage waits us is e =
      subst (λ xs. Requests k x need.name need.mode need.duration stage waits (Waits need.name need.mode us) (record k { sessions = xs; locks = rows })) e (requests-waits k x need stage waits rows us (of_own k s at x need o (HasTo us) rows stands is comes))

  pub names-granted : object_need x.stage ≡ Some need → y ≡ at_stage (named x.stage) x → o ≡ Gets → Does IsTakenOut k (Name s) Granted (with_seat k at y rows)
  names-granted wants e is = names-with k s at x need Granted (with_seat k at y rows) stands wants (granted (named x.stage) (awaiting_name x.stage) is (moved named e))

  pub names-waits : (us : List ℕ) → object_need x.stage ≡ Some need → y ≡ at_stage (awaiting_name x.stage) x → o ≡ HasTo us → Does IsTakenOut k (Name s) (Waits need.name need.mode us) (with_seat k at y rows)
  names-waits us wants e is = names-with k s at x need (Waits need.name need.mode us) (with_seat k at y rows) stands wants (has_to_wait (named x.stage) (awaiting_name x.stage) us is (moved awaiting_name e))

  pub asks-granted : next_need x.stage ≡ Some need → y ≡ at_stage (asked x.stage) x → o ≡ Gets → Does IsTakenOut k (Ask s) Granted (with_seat k at y rows)
  asks-granted wants e is = asks-with k s at x need Granted (with_seat k at y rows) stands wants (granted (asked x.stage) (awaiting_need x.stage) is (moved asked e))

  pub asks-waits : (us : List ℕ) → next_need x.stage ≡ Some need → y ≡ at_stage (awaiting_need x.stage) x → o ≡ HasTo us → Does IsTakenOut k (Ask s) (Waits need.name need.mode us) (with_seat k at y rows)
  asks-waits us wants e is = asks-with k s at x need (Waits need.name need.mode us) (with_seat k at y rows) stands wants (has_to_wait (asked x.stage) (awaiting_need x.stage) us is (moved awaiting_need e))

  -- where a wait would close a cycle, nothing has changed before the transaction is undone
  module _ (cycle : List Edge) (is : o ≡ Closes cycle) where
    pub closes-same : x ≡ get_or k.sessions at x → with_seat k at x rows ≡ k
    closes-same value =
        ap (λ xs. record k { sessions = xs; locks = rows }) (ap (slice_set k.sessions at) value ∙ set-get_or k.sessions at x)
        ∙ ap (λ rs. record k { locks = rs }) (closes-rows s need k.locks rows cycle (subst (λ p. ComesTo s need k.locks p rows) is comes))

    pub names-closes : object_need x.stage ≡ Some need → Does IsTakenOut k (Name s) (Deadlock cycle) (with_ended x.txn.number cycle (rolled_back x (let_short_go x.txn.session k)))
    names-closes wants =
        names-with k s at x need (Deadlock cycle) _ stands wants (requests-closes k x need (named x.stage) (awaiting_name x.stage) rows cycle (of_own k s at x need o (Closes cycle) rows stands is comes))

    pub asks-closes : next_need x.stage ≡ Some need → Does IsTakenOut k (Ask s) (Deadlock cycle) (with_ended x.txn.number cycle (rolled_back x (let_short_go x.txn.session k)))
    asks-closes wants =
        asks-with k s at x need (Deadlock cycle) _ stands wants (requests-closes k x need (asked x.stage) (awaiting_need x.stage) rows cycle (of_own k s at x need o (Closes cycle) rows stands is comes))

-- the transaction that a deadlock ends is undone in a kernel that is as it was
pub ends-done : {E : Type 0} (k mid after : Kernel) (event : Event) (at : ℕ) (x : Session) (cycle : List Edge) (result : Result Answer E) → mid ≡ k → slice_get k.sessions at ≡ Some x
    → IfOk result (λ a. a ≡ Deadlock cycle)
    → IfOk result (λ a. (y : Session) → slice_get mid.sessions at ≡ Some y → after ≡ with_ended y.txn.number cycle (rolled_back y (let_short_go y.txn.session mid)))
    → Does IsTakenOut k event (Deadlock cycle) (with_ended x.txn.number cycle (rolled_back x (let_short_go x.txn.session k)))
    → IfOk result (λ a. Does IsTakenOut k event a after)
ends-done k mid after event at x cycle (Ok a) same got answer done does =
    let e = done x (ap (λ (m : Kernel). slice_get m.sessions at) same ∙ got) ∙ ap (λ (m : Kernel). with_ended x.txn.number cycle (rolled_back x (let_short_go x.txn.session m))) same in
    subst (λ b. Does IsTakenOut k event b after) (sym answer) (subst (λ m. Does IsTakenOut k event (Deadlock cycle) m) (sym e) does)
ends-done k mid after event at x cycle (Err e) same got answer done does = tt

pub ends-same : {E : Type 0} (k mid after : Kernel) (result : Result Answer E) → mid ≡ k → OnErr result (after ≡ mid) → OnErr result (after ≡ k)
ends-same k mid after (Ok a) same e = tt
ends-same k mid after (Err x) same e = e ∙ same
