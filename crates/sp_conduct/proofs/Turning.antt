-- Which events of a session at rest are turned away, and with which answer.
use Rattle.std.proofs.Common.{◌≡◌, ◌≢◌, ◌⊎◌, ℕ, ◌+◌, Bool, true, false, not, List, [], ◌∷◌, Option, None, Some, length, nat_le, refl, sym, ap, ◌∙◌, inl, inr, true≢false}
use Rattle.sp_rect.specs.declared.operation.Op.{Op}
use Rattle.sp_locks.specs.declared.mode.Mode.{Mode}
use Rattle.sp_locks.specs.declared.row.Name.{Name as OnName}
use Rattle.sp_event.specs.declared.event.Event.{Event}
use Rattle.sp_event.specs.declared.event.Event.TheVariants.{Begin, Start, Name, Plan, Ask, Apply, Commit, Flush, Rollback, Clean}
use Rattle.sp_event.specs.declared.answer.Answer.{Answer}
use Rattle.sp_event.specs.declared.answer.Answer.TheVariants.{Queued as IsQueued, RolledBack, Refused, Full, Durable, Stopped, Memory}
use Rattle.sp_event.specs.declared.answer.Why.{Why}
use Rattle.sp_event.specs.declared.answer.Why.TheVariants.{InTxn, NoTxn, Busy}
use Rattle.sp_event.specs.declared.answer.Kind.{Kind}
use Rattle.sp_event.specs.declared.answer.Kind.TheVariants.{Numbers, Transactions, Commits}
use Rattle.sp_model.specs.declared.session.Session.{Session}
use Rattle.sp_model.specs.declared.session.Stage.{Stage}
use Rattle.sp_model.specs.declared.session.Stage.TheVariants.{Idle, NameWait, NeedWait}
use Rattle.sp_model.specs.State.{Kernel, session_at}
use Rattle.sp_model.specs.Refusals.{first_of, answer_if, found_for, is_placed, stops, begin_refused, commit_refused, rollback_refused, refusal, refused, full, still, latched, first_unused, most_transactions, most_endings, open_transactions, turned_away}
use Rattle.sp_model.specs.Stepped.{Stepped}
use Rattle.sp_model.proofs.Turned.{is_let}
use Rattle.sp_kernel.specs.Answers.{Answers}
use Rattle.sp_told.proofs.Quiet.{IsQuiet, turned_quiet}
use Rattle.sp_desk.specs.Cleaning.{fault_in}
use Rattle.sp_conduct.proofs.Resting.{IsStalled}

stop_faults : (offset : ℕ) → fault_in (Stopped offset) ≡ None → ⊥
stop_faults offset h = cc

pub memory_faults : fault_in Memory ≡ None → ⊥
memory_faults h = cc

-- the answer, if there is one, is a fault
abbrev IsStop : Option Answer → Type 0
IsStop None = Unit {0}
IsStop (Some answer) = fault_in answer ≡ None → ⊥

stop_if : (b : Bool) (offset : ℕ) → IsStop (answer_if b (Stopped offset))
stop_if true offset = stop_faults offset
stop_if false offset = tt

stops_fault : (o : Option ℕ) (event : Event) (x : Option Session) → IsStop (stops o event x)
stops_fault None event x = tt
stops_fault (Some offset) (Commit s) x = stop_if (not (is_placed x)) offset
stops_fault (Some offset) (Begin s) x = stop_faults offset
stops_fault (Some offset) (Start s op) x = stop_faults offset
stops_fault (Some offset) (Name s) x = stop_faults offset
stops_fault (Some offset) (Plan s) x = stop_faults offset
stops_fault (Some offset) (Ask s) x = stop_faults offset
stops_fault (Some offset) (Apply s) x = stop_faults offset
stops_fault (Some offset) (Rollback s) x = stop_faults offset
stops_fault (Some offset) Flush x = stop_faults offset
stops_fault (Some offset) Clean x = stop_faults offset

past_stop : (p : Option Answer) (rest : List (Option Answer)) (answer : Answer) → IsStop p → fault_in answer ≡ None → first_of (p ∷ rest) ≡ Some answer → first_of rest ≡ Some answer
past_stop None rest answer stop free h = h
past_stop (Some a) rest answer stop free h = let e : a ≡ answer = cc in absurd (stop (ap fault_in e ∙ free))

-- the answers behind the fault
abbrev behind : Kernel → Event → List (Option Answer)
behind k event = refused (refusal event (found_for event k.sessions)) ∷ full event (found_for event k.sessions) k ∷ still event k.locks ∷ latched event (found_for event k.sessions) k.sessions ∷ []

no_fault : (k : Kernel) (event : Event) (answer : Answer) → fault_in answer ≡ None → turned_away k event ≡ Some answer → first_of (behind k event) ≡ Some answer
no_fault k event answer free h = past_stop (stops k.stopped event (found_for event k.sessions)) (behind k event) answer (stops_fault k.stopped event (found_for event k.sessions)) free h

one : (a b : Answer) → Some a ≡ Some b → b ≡ a
one a b h = cc

-- an event that is refused for some reason is so, where there is no fault
pub refused_answer : (k : Kernel) (event : Event) (why : Why) (answer : Answer) (n : Kernel) → event ≢ Flush → refusal event (found_for event k.sessions) ≡ Some why → fault_in answer ≡ None → Answers k event answer n → (answer ≡ Refused why) × (n ≡ k)
refused_answer k event why _ _ other is free (Answers.IsStepped _ _ (Stepped.IsTurnedAway answer away)) =
    let rest : List (Option Answer) = full event (found_for event k.sessions) k ∷ still event k.locks ∷ latched event (found_for event k.sessions) k.sessions ∷ [] in
    (one (Refused why) answer (sym (ap (λ (o : Option Why). first_of (refused o ∷ rest)) is) ∙ no_fault k event answer free away), refl)
refused_answer k event why _ _ other is free (Answers.IsStepped _ _ (Stepped.IsDone answer n goes does)) = absurd (differ (sym (is_let k event goes).refusal ∙ is))
  where
    differ : None ≡ Some why → ⊥
    differ h = cc
refused_answer k event why _ _ other is free Answers.WantsMemory = absurd (memory_faults free)
refused_answer k event why _ _ other is free (Answers.Fails offset flush goes some) = absurd (other flush)

none_of : (a b c d : Option Answer) → a ≡ None → b ≡ None → c ≡ None → d ≡ None → first_of (a ∷ b ∷ c ∷ d ∷ []) ≡ None
none_of a b c d e f g h = rw (e, f, g, h) refl

-- and one that nothing is against is not turned away
not_away : (k : Kernel) (event : Event) (answer : Answer) → refusal event (found_for event k.sessions) ≡ None → full event (found_for event k.sessions) k ≡ None → still event k.locks ≡ None → latched event (found_for event k.sessions) k.sessions ≡ None
    → fault_in answer ≡ None → turned_away k event ≡ Some answer → ⊥
not_away k event answer a b c d free h =
    differ (sym (none_of (refused (refusal event (found_for event k.sessions))) (full event (found_for event k.sessions) k) (still event k.locks) (latched event (found_for event k.sessions) k.sessions) (ap refused a) b c d) ∙ no_fault k event answer free h)
  where
    differ : None ≡ Some answer → ⊥
    differ h = cc

-- the stages of sessions that have transactions, between commands
pub data AtRest (stage : Stage) : Type 0 where
  IsIdle : stage ≡ Idle → AtRest stage
  WaitsForName : (op : Op) → stage ≡ NameWait op → AtRest stage
  WaitsForNeed : (op : Op) → stage ≡ NeedWait op → AtRest stage

pub stalled_rest : (k : Kernel) (s : ℕ) (op : Op) (name : OnName) (mode : Mode) (h : IsStalled k s op name mode) → AtRest h.session.stage
stalled_rest k s op name mode h = elim h.stage [ inl e ↦ WaitsForName op e | inr e ↦ WaitsForNeed op e ]

begin_at : (stage : Stage) → AtRest stage → begin_refused stage ≡ InTxn
begin_at stage (IsIdle e) = ap begin_refused e
begin_at stage (WaitsForName op e) = ap begin_refused e
begin_at stage (WaitsForNeed op e) = ap begin_refused e

rollback_at : (stage : Stage) → AtRest stage → rollback_refused stage ≡ None
rollback_at stage (IsIdle e) = ap rollback_refused e
rollback_at stage (WaitsForName op e) = ap rollback_refused e
rollback_at stage (WaitsForNeed op e) = ap rollback_refused e

commit_at : (stage : Stage) (op : Op) → (stage ≡ NameWait op) ⊎ (stage ≡ NeedWait op) → commit_refused stage ≡ Some Busy
commit_at stage op (inl e) = ap commit_refused e
commit_at stage op (inr e) = ap commit_refused e

full_three : (a b c : Bool) (answer : Answer) → first_of (first_of (answer_if a (Full Numbers) ∷ answer_if b (Full Transactions) ∷ answer_if c (Full Commits) ∷ []) ∷ None ∷ None ∷ []) ≡ Some answer → (kind : Kind) × (answer ≡ Full kind)
full_three true b c answer h = (Numbers, one (Full Numbers) answer h)
full_three false true c answer h = (Transactions, one (Full Transactions) answer h)
full_three false false true answer h = (Commits, one (Full Commits) answer h)
full_three false false false answer h = absurd (differ h)
  where
    differ : None ≡ Some answer → ⊥
    differ e = cc

module _ (k : Kernel) (s : ℕ) where
  module _ (out : session_at s k.sessions ≡ None) where
    pub rollback_out : refusal (Rollback s) (session_at s k.sessions) ≡ Some NoTxn
    rollback_out = ap (refusal (Rollback s)) out

    pub commit_out : refusal (Commit s) (session_at s k.sessions) ≡ Some NoTxn
    commit_out = ap (refusal (Commit s)) out

    -- a begin is turned away by a limit alone
    pub begin_full : (answer : Answer) → fault_in answer ≡ None → turned_away k (Begin s) ≡ Some answer → (kind : Kind) × (answer ≡ Full kind)
    begin_full answer free h =
        let x = session_at s k.sessions in
        let m : first_of (full (Begin s) x k ∷ None ∷ None ∷ []) ≡ Some answer =
        sym (ap (λ (o : Option Why). first_of (refused o ∷ full (Begin s) x k ∷ None ∷ None ∷ [])) (ap (refusal (Begin s)) out)) ∙ no_fault k (Begin s) answer free h in
        full_three (nat_le first_unused k.next_txn) (nat_le most_transactions (open_transactions k.sessions)) (nat_le most_endings (length k.commits + length k.ended + open_transactions k.sessions)) answer m

  module _ (x : Session) (at : session_at s k.sessions ≡ Some x) where
    pub begin_in : AtRest x.stage → refusal (Begin s) (session_at s k.sessions) ≡ Some InTxn
    begin_in rest = ap (refusal (Begin s)) at ∙ ap Some (begin_at x.stage rest)

    pub commit_stalled : (op : Op) → (x.stage ≡ NameWait op) ⊎ (x.stage ≡ NeedWait op) → refusal (Commit s) (session_at s k.sessions) ≡ Some Busy
    commit_stalled op stage = ap (refusal (Commit s)) at ∙ commit_at x.stage op stage

    -- a rollback goes, and a commit of one that is idle
    pub rollback_goes : AtRest x.stage → (answer : Answer) → fault_in answer ≡ None → turned_away k (Rollback s) ≡ Some answer → ⊥
    rollback_goes rest answer free h = not_away k (Rollback s) answer (ap (refusal (Rollback s)) at ∙ rollback_at x.stage rest) refl refl refl free h

    pub commit_goes : x.stage ≡ Idle → (answer : Answer) → fault_in answer ≡ None → turned_away k (Commit s) ≡ Some answer → ⊥
    commit_goes idle answer free h = not_away k (Commit s) answer (ap (refusal (Commit s)) at ∙ ap commit_refused idle) refl refl refl free h

-- answers that nothing is turned away with
abbrev pub is_loud : Answer → Bool
is_loud IsQueued = true
is_loud RolledBack = true
is_loud (Durable first count) = true
is_loud answer = false

quiet_soft : (answer : Answer) → IsQuiet answer → is_loud answer ≡ false
quiet_soft _ (IsQuiet.Stops offset) = refl
quiet_soft _ (IsQuiet.Refuses why) = refl
quiet_soft _ (IsQuiet.IsFull kind) = refl
quiet_soft _ (IsQuiet.WaitsStill name) = refl
quiet_soft _ (IsQuiet.IsLatched holder) = refl
quiet_soft _ IsQuiet.Lacks = refl
quiet_soft _ IsQuiet.Faults = refl

pub never_away : (k : Kernel) (event : Event) (answer : Answer) → is_loud answer ≡ true → turned_away k event ≡ Some answer → ⊥
never_away k event answer loud away = true≢false (sym loud ∙ quiet_soft answer (turned_quiet k event answer away))
