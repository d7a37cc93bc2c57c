-- The walk of one operation event by event: what stays of the kernel where it began, and the stage of its session at each point.
use Rattle.std.proofs.Common.{◌≡◌, ◌⊎◌, ℕ, zero, suc, Bool, true, false, List, ◌∷◌, length, None, Some, refl, sym, ap, ap₂, ◌∙◌, subst, inl, inr, true≢false, arith}
use Rattle.sp_rect.specs.declared.record.Record.{Record}
use Rattle.sp_rect.specs.declared.operation.Op.{Op}
use Rattle.sp_rect.specs.declared.operation.Answered.{Answered}
use Rattle.sp_rect.specs.declared.commit.Commit.{Commit}
use Rattle.sp_rect.specs.Serial.{records_after, after_all}
use Rattle.sp_locks.specs.declared.mode.Mode.{Mode}
use Rattle.sp_locks.specs.declared.row.Name.{Name}
use Rattle.sp_locks.specs.declared.row.Row.{Row}
use Rattle.sp_locks.specs.declared.row.Duration.{Duration}
use Rattle.sp_locks.specs.declared.row.Duration.TheVariants.{Commit as ToTheEnd}
use Rattle.sp_locks.specs.declared.needs.Need.{Need}
use Rattle.sp_event.specs.declared.event.Event.{Event}
use Rattle.sp_event.specs.declared.event.Event.TheVariants.{Start, Name as AskName, Plan as AskPlan, Ask}
use Rattle.sp_event.specs.declared.answer.Answer.{Answer}
use Rattle.sp_event.specs.declared.answer.Answer.TheVariants.{Started as IsStarted, Granted, Planned as IsPlanned, Memory, DiskFault}
use Rattle.sp_model.specs.declared.session.Session.{Session}
use Rattle.sp_model.specs.declared.session.Stage.{Stage}
use Rattle.sp_model.specs.declared.session.Stage.TheVariants.{Started, NameWait, Named, NeedWait, Planned}
use Rattle.sp_model.specs.State.{Kernel, session_at, at_stage, staged}
use Rattle.sp_model.specs.Refusals.{session_of}
use Rattle.sp_model.specs.Moves.{with_stage, Requests}
use Rattle.sp_model.specs.Plans.{left_to_ask}
use Rattle.sp_model.specs.Removal.{IsTakenOut}
use Rattle.sp_model.specs.Stepped.{Stepped, Does, IsAt}
use Rattle.sp_model.specs.Soundness.{MayHave, Sound}
use Rattle.sp_kernel.specs.Answers.{Answers}
use Rattle.sp_kernel.proofs.Going.{answer_keeps}
use Rattle.sp_told.specs.Telling.{operation_of}
use Rattle.sp_told.proofs.Changes.{session_changes}
use Rattle.sp_told.proofs.Commits.{own_number}
use Rattle.sp_told.proofs.Quiet.{IsQuiet, turned_quiet}
use Rattle.sp_desk.specs.declared.point.Point.{Point}
use Rattle.sp_desk.specs.declared.point.Point.TheVariants.{Object, Plan, Locks}
use Rattle.sp_desk.specs.Points.{event_at, next_after}
use Rattle.sp_desk.specs.Working.{Reaches}
use Rattle.sp_conduct.proofs.Resting.{pairs_at, seen_in, next_begun, KeepsOthers}
use Rattle.sp_conduct.proofs.Others.{others_kept, kept_none, kept_more, next_kept, base_kept}
use Rattle.sp_conduct.proofs.Asking.{StageFits, IsCalm, stage_operation, stage_awake, one}

-- The kernel came from the other by what the session asked: of the other sessions nothing changed but that some wait no more, and the session's transaction sees what it saw.
pub record Since (s : ℕ) (k m : Kernel) : Type 0 where
  pub session : Session
  pub at : IsAt m s session
  pub sound : Sound m
  pub keeps : KeepsOthers s k m
  pub next : m.next_txn ≡ k.next_txn
  pub base : m.base ≡ k.base
  pub seen : seen_in m s ≡ seen_in k s

-- an operation of the session stands at the point
pub record Walks (s : ℕ) (op : Op) (k : Kernel) (point : Point) (m : Kernel) : Type 0 where
  pub since : Since s k m
  pub stage : StageFits since.session.stage op point
  pub calm : IsCalm m s

abbrev pub since_none : (s : ℕ) (k : Kernel) (x : Session) → Sound k → IsAt k s x → Since s k k
since_none s k x sound at = record { session = x; at = at; sound = sound; keeps = kept_none s k; next = refl; base = refl; seen = refl }

-- the session goes on at another stage
module _ (s : ℕ) (op : Op) (k m : Kernel) (since : Since s k m) (event : Event) (answer : Answer) (n : Kernel) (of : session_of event ≡ Some s) (h : Answers m event answer n) where
  goes_on : (t : ℕ) (stage : Stage) (next : Point) → t ≡ s → next_begun answer m.next_txn ≡ m.next_txn → n.sessions ≡ staged t stage m.sessions → n.commits ≡ m.commits
      → StageFits stage op next → ((row : Row) → MayHave stage row → row.waiting ≡ false) → Walks s op k next n
  goes_on t stage next own begun sessions commits fits none = record {
    since = record {
      session = at_stage stage since.session;
      at = at;
      sound = sound;
      keeps = kept_more s k m n since.keeps (others_kept m s event answer n of h);
      next = next_kept m event answer n h ∙ begun ∙ since.next;
      base = base_kept m event answer n h ∙ since.base;
      seen = ap₂ (λ (records : List Record) (pairs : List Answered). records_after records pairs)
          (ap₂ (λ (records : List Record) (cs : List Commit). after_all records cs) (base_kept m event answer n h) commits) (ap pairs_at at ∙ sym (ap pairs_at since.at))
          ∙ since.seen;
    };
    stage = fits;
    calm = λ goes. stage_awake n s (at_stage stage since.session) sound at none;
  }
    where
      sound : Sound n
      sound = answer_keeps m event answer n since.sound h

      at : IsAt n s (at_stage stage since.session)
      at = ap (session_at s) sessions ∙ (session_changes s t (at_stage stage) m.sessions since.session own (λ y. refl) since.at).own

-- the answers by which an operation goes on
abbrev pub goes_by : Answer → Bool
goes_by Granted = true
goes_by (IsPlanned count) = true
goes_by answer = false

quiet_ends : (answer : Answer) → IsQuiet answer → goes_by answer ≡ false
quiet_ends _ (IsQuiet.Stops offset) = refl
quiet_ends _ (IsQuiet.Refuses why) = refl
quiet_ends _ (IsQuiet.IsFull kind) = refl
quiet_ends _ (IsQuiet.WaitsStill name) = refl
quiet_ends _ (IsQuiet.IsLatched holder) = refl
quiet_ends _ IsQuiet.Lacks = refl
quiet_ends _ IsQuiet.Faults = refl

no_point : (next : Point) → None ≡ Some next → ⊥
no_point next h = cc

same_point : (a b : Point) → Some a ≡ Some b → a ≡ b
same_point a b h = cc

next_goes : (point : Point) (answer : Answer) (next : Point) → next_after point answer ≡ Some next → goes_by answer ≡ true
next_goes Object Granted next e = refl
next_goes Plan (IsPlanned count) next e = refl
next_goes (Locks (suc left)) Granted next e = refl
next_goes point answer next e = absurd (no_point next e)

-- the request was granted
pub record IsGiven (m : Kernel) (x : Session) (granted : Stage) (answer : Answer) (n : Kernel) : Type 0 where
  pub is : answer ≡ Granted
  pub sessions : n.sessions ≡ staged x.txn.session granted m.sessions
  pub commits : n.commits ≡ m.commits

request_given : (m : Kernel) (x : Session) (name : Name) (mode : Mode) (duration : Duration) (granted waits : Stage) (answer : Answer) (n : Kernel) → Requests m x name mode duration granted waits answer n → goes_by answer ≡ true → IsGiven m x granted answer n
request_given m x name mode duration granted waits _ _ (Requests.IsGranted free) goes = record { is = refl; sessions = refl; commits = refl }
request_given m x name mode duration granted waits _ _ (Requests.HasToWait stuck open_end) goes = absurd (true≢false (sym goes))
request_given m x name mode duration granted waits _ _ (Requests.ClosesCycle cycle stuck closes) goes = absurd (true≢false (sym goes))

same_op : (a b : Op) → Some a ≡ Some b → a ≡ b
same_op a b h = cc

-- the operation that is under way is this one
pub own_op : (s : ℕ) (op : Op) (k : Kernel) (point : Point) (m : Kernel) → Walks s op k point m → (x : Session) (other : Op) → IsAt m s x → operation_of x.stage ≡ Some other → other ≡ op
own_op s op k point m walk x other at under =
    same_op other op
    (sym under ∙ ap (λ (z : Session). operation_of z.stage) (one x walk.since.session (sym at ∙ walk.since.at)) ∙ stage_operation walk.since.session.stage op point walk.stage)

same_needs : (a b : Op) (needs others : List Need) → Planned a needs ≡ Planned b others → needs ≡ others
same_needs a b needs others h = cc

one_less : (need : Need) (needs : List Need) (left : ℕ) → length (need ∷ needs) ≡ suc left → length needs ≡ left
one_less need needs left h = omega arith

-- so many needs are left
pub own_left : (s : ℕ) (op : Op) (k : Kernel) (left : ℕ) (m : Kernel) → Walks s op k (Locks left) m → (x : Session) (other : Op) (needs : List Need) → IsAt m s x → x.stage ≡ Planned other needs → length needs ≡ left
own_left s op k left m walk x other needs at is =
    ap length
    (same_needs other op needs walk.stage.0
    (sym is ∙ ap (λ (z : Session). z.stage) (one x walk.since.session (sym at ∙ walk.since.at)) ∙ walk.stage.1))
    ∙ walk.stage.2

module _ (s : ℕ) (op : Op) (k m : Kernel) where
  name_on : Walks s op k Object m → (answer : Answer) (n : Kernel) → Answers m (AskName s) answer n → Does IsTakenOut m (AskName s) answer n → goes_by answer ≡ true → (next : Point) → next_after Object answer ≡ Some next → Walks s op k next n
  name_on walk _ _ h (Does.NamesNothing _ x other at is none) goes next e =
      subst (λ (p : Point). Walks s op k p (with_stage s (Named other) m)) (same_point Plan next e)
      (goes_on s op k m walk.since (AskName s) Granted (with_stage s (Named other) m) refl h s (Named other) Plan refl refl refl refl (inl (ap Named (own_op s op k Object m walk x other at (ap operation_of is)))) (λ row may. may.0))
  name_on walk _ _ h (Does.Names _ x other name mode answer n at is asked requests) goes next e =
      let given = request_given m x name mode ToTheEnd (Named other) (NameWait other) answer n requests goes in
      subst (λ (p : Point). Walks s op k p n) (same_point Plan next (ap (next_after Object) (sym given.is) ∙ e))
      (goes_on s op k m walk.since (AskName s) answer n refl h x.txn.session (Named other) Plan (own_number m s x at) (ap (λ (a : Answer). next_begun a m.next_txn) given.is) given.sessions given.commits
      (inl (ap Named (own_op s op k Object m walk x other at (ap operation_of is)))) (λ row may. may.0))
  name_on walk _ _ h (Does.HasWaited _ x other at is) goes next e =
      subst (λ (p : Point). Walks s op k p (with_stage s (Named other) m)) (same_point Plan next e)
      (goes_on s op k m walk.since (AskName s) Granted (with_stage s (Named other) m) refl h s (Named other) Plan refl refl refl refl (inl (ap Named (own_op s op k Object m walk x other at (ap operation_of is)))) (λ row may. may.0))

  plan_on : Walks s op k Plan m → (answer : Answer) (n : Kernel) → Answers m (AskPlan s) answer n → Does IsTakenOut m (AskPlan s) answer n → (next : Point) → next_after Plan answer ≡ Some next → Walks s op k next n
  plan_on walk _ _ h (Does.Plans _ x other commit short at is needs) next e =
      let left = left_to_ask m.locks s commit short in
      subst (λ (p : Point). Walks s op k p (with_stage s (Planned other left) m)) (same_point (Locks (length left)) next e)
      (goes_on s op k m walk.since (AskPlan s) (IsPlanned (length left)) (with_stage s (Planned other left) m) refl h s (Planned other left) (Locks (length left)) refl refl refl refl
      (left, ap (λ (o : Op). Planned o left) (own_op s op k Plan m walk x other at (under is)), refl) (λ row may. may))
    where
      under : (x.stage ≡ Named other) ⊎ (x.stage ≡ NeedWait other) → operation_of x.stage ≡ Some other
      under (inl f) = ap operation_of f
      under (inr f) = ap operation_of f

  ask_on : (left : ℕ) → Walks s op k (Locks (suc left)) m → (answer : Answer) (n : Kernel) → Answers m (Ask s) answer n → Does IsTakenOut m (Ask s) answer n → goes_by answer ≡ true → (next : Point) → next_after (Locks (suc left)) answer ≡ Some next → Walks s op k next n
  ask_on left walk _ _ h (Does.Asks _ x other need needs answer n at is requests) goes next e =
      let given = request_given m x need.name need.mode need.duration (Planned other needs) (NeedWait other) answer n requests goes in
      subst (λ (p : Point). Walks s op k p n) (same_point (Locks left) next (ap (next_after (Locks (suc left))) (sym given.is) ∙ e))
      (goes_on s op k m walk.since (Ask s) answer n refl h x.txn.session (Planned other needs) (Locks left) (own_number m s x at) (ap (λ (a : Answer). next_begun a m.next_txn) given.is) given.sessions given.commits
      (needs, ap (λ (o : Op). Planned o needs) (own_op s op k (Locks (suc left)) m walk x other at (ap operation_of is)), one_less need needs left (own_left s op k (suc left) m walk x other (need ∷ needs) at is)) (λ row may. may))

  apply_stays : (answer : Answer) (next : Point) → next_after (Locks zero) answer ≡ Some next → ⊥
  apply_stays answer next e = no_point next e

  -- one event by which it goes on
  done_on : (point : Point) → Walks s op k point m → (answer : Answer) (n : Kernel) → Answers m (event_at s point) answer n → Does IsTakenOut m (event_at s point) answer n → (next : Point) → next_after point answer ≡ Some next → Walks s op k next n
  done_on Object walk answer n h does next e = name_on walk answer n h does (next_goes Object answer next e) next e
  done_on Plan walk answer n h does next e = plan_on walk answer n h does next e
  done_on (Locks zero) walk answer n h does next e = absurd (apply_stays answer next e)
  done_on (Locks (suc left)) walk answer n h does next e = ask_on left walk answer n h does (next_goes (Locks (suc left)) answer next e) next e

  step_on : (point : Point) → Walks s op k point m → (answer : Answer) (n : Kernel) → Answers m (event_at s point) answer n → (next : Point) → next_after point answer ≡ Some next → Walks s op k next n
  step_on point walk _ _ (Answers.IsStepped _ _ (Stepped.IsTurnedAway answer away)) next e = absurd (true≢false (sym (next_goes point answer next e) ∙ quiet_ends answer (turned_quiet m (event_at s point) answer away)))
  step_on point walk _ _ (Answers.IsStepped _ _ (Stepped.IsDone answer n free does)) next e = done_on point walk answer n (Answers.IsStepped answer n (Stepped.IsDone answer n free does)) does next e
  step_on point walk _ _ Answers.WantsMemory next e = absurd (true≢false (sym (next_goes point Memory next e)))
  step_on point walk _ _ (Answers.Fails offset flush free some) next e = absurd (true≢false (sym (next_goes point DiskFault next e)))

pub walks_on : (s : ℕ) (op : Op) (first : Kernel) (from : Point) (k : Kernel) (point : Point) (n : Kernel) → Reaches s from k point n → Walks s op first from k → Walks s op first point n
walks_on s op first from k _ _ Reaches.Stays walk = walk
walks_on s op first from k _ _ (Reaches.Goes {point} {m} r answer next n h e) walk = step_on s op first m point (walks_on s op first from k point m r walk) answer n h next e

-- a session that is idle starts an operation
started_walks : (s : ℕ) (op : Op) (k : Kernel) (since : Since s k k) (n : Kernel) (answer : Answer) → answer ≡ IsStarted → Answers k (Start s op) answer n → Does IsTakenOut k (Start s op) answer n → Walks s op k Object n
started_walks s op k since _ _ started h (Does.Starts _ x _ at in_space) = goes_on s op k k since (Start s op) IsStarted (with_stage s (Started op) k) refl h s (Started op) Object refl refl refl refl (inl refl) (λ row may. may.0)

pub start_walks : (s : ℕ) (op : Op) (k : Kernel) → Since s k k → (n : Kernel) (answer : Answer) → answer ≡ IsStarted → Answers k (Start s op) answer n → Walks s op k Object n
start_walks s op k since _ _ is (Answers.IsStepped _ _ (Stepped.IsTurnedAway answer away)) = absurd (quiet_start answer (turned_quiet k (Start s op) answer away) is)
  where
    quiet_start : (answer : Answer) → IsQuiet answer → answer ≡ IsStarted → ⊥
    quiet_start _ (IsQuiet.Stops offset) e = cc
    quiet_start _ (IsQuiet.Refuses why) e = cc
    quiet_start _ (IsQuiet.IsFull kind) e = cc
    quiet_start _ (IsQuiet.WaitsStill name) e = cc
    quiet_start _ (IsQuiet.IsLatched holder) e = cc
    quiet_start _ IsQuiet.Lacks e = cc
    quiet_start _ IsQuiet.Faults e = cc
start_walks s op k since _ _ is (Answers.IsStepped _ _ (Stepped.IsDone answer n free does)) = started_walks s op k since n answer is (Answers.IsStepped answer n (Stepped.IsDone answer n free does)) does
start_walks s op k since _ _ is Answers.WantsMemory = absurd (cc)
start_walks s op k since _ _ is (Answers.Fails offset flush free some) = absurd (cc)
