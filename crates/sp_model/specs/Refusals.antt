-- The answers that change nothing, in their order: an event is answered by the first whose condition holds.
use Rattle.std.specs.Prelude.{ℕ, ◌+◌, ◌^◌, Bool, true, false, ◌&&◌, not, nat_eq, nat_le, List, [], ◌∷◌, length, filter, Option, Some, None, cond}
use Rattle.std.specs.List.{sum_by}
use Rattle.sp_rect.specs.declared.operation.Op.{Op}
use Rattle.sp_rect.specs.declared.operation.Op.TheVariants.{Get, Find}
use Rattle.sp_rect.specs.declared.commit.Commit.{Commit}
use Rattle.sp_locks.specs.declared.row.Row.{Row}
use Rattle.sp_locks.specs.Rows.{waiting_in}
use Rattle.sp_event.specs.declared.event.Event.{Event}
use Rattle.sp_event.specs.declared.event.Event.TheVariants.{Begin, Start, Name, Plan, Ask, Apply, Commit as AskCommit, Flush, Rollback, Clean}
use Rattle.sp_event.specs.declared.answer.Answer.{Answer}
use Rattle.sp_event.specs.declared.answer.Answer.TheVariants.{Still, LatchBusy, Refused, Full, Stopped}
use Rattle.sp_event.specs.declared.answer.Why.{Why}
use Rattle.sp_event.specs.declared.answer.Why.TheVariants.{InTxn, NoTxn, Busy, Phase}
use Rattle.sp_event.specs.declared.answer.Kind.TheVariants.{Transactions, Commits, Operations, History, Numbers}
use Rattle.sp_model.specs.declared.session.Session.{Session}
use Rattle.sp_model.specs.declared.session.Stage.{Stage}
use Rattle.sp_model.specs.declared.session.Stage.TheVariants.{Idle, Started, NameWait, Named, NeedWait, Planned, Queued, Placed}
use Rattle.sp_model.specs.State.{Kernel, is_active, session_at}

-- the first answer of these
abbrev pub first_of : List (Option Answer) → Option Answer
first_of [] = None
first_of (Some a ∷ rest) = Some a
first_of (None ∷ rest) = first_of rest

abbrev pub answer_if : Bool → Answer → Option Answer
answer_if b a = cond b (Some a) None

-- the session that an event names
abbrev pub session_of : Event → Option ℕ
session_of (Begin s) = Some s
session_of (Start s op) = Some s
session_of (Name s) = Some s
session_of (Plan s) = Some s
session_of (Ask s) = Some s
session_of (Apply s) = Some s
session_of (AskCommit s) = Some s
session_of (Rollback s) = Some s
session_of Flush = None
session_of Clean = None

abbrev pub found_by : Option ℕ → List Session → Option Session
found_by None xs = None
found_by (Some s) xs = session_at s xs

-- the session that an event names, where it has a transaction
abbrev pub found_for : Event → List Session → Option Session
found_for event xs = found_by (session_of event) xs

abbrev pub is_placed : Option Session → Bool
is_placed None = false
is_placed (Some x) = not (is_active x)

-- After a fault every event is stopped, but a commit of a transaction that has its place.
abbrev pub stops : Option ℕ → Event → Option Session → Option Answer
stops None event x = None
stops (Some offset) (AskCommit s) x = answer_if (not (is_placed x)) (Stopped offset)
stops (Some offset) event x = Some (Stopped offset)

abbrev pub begin_refused : Stage → Why
begin_refused Queued = Busy
begin_refused Placed = Busy
begin_refused stage = InTxn

abbrev pub start_refused : Stage → Option Why
start_refused Idle = None
start_refused stage = Some Busy

abbrev pub name_refused : Stage → Option Why
name_refused (Started op) = None
name_refused (NameWait op) = None
name_refused stage = Some Phase

abbrev pub plan_refused : Stage → Option Why
plan_refused (Named op) = None
plan_refused (NeedWait op) = None
plan_refused stage = Some Phase

abbrev pub ask_refused : Stage → Option Why
ask_refused (Planned op (need ∷ left)) = None
ask_refused stage = Some Phase

abbrev pub apply_refused : Stage → Option Why
apply_refused (Planned op []) = None
apply_refused stage = Some Phase

abbrev pub commit_refused : Stage → Option Why
commit_refused Idle = None
commit_refused Queued = None
commit_refused Placed = None
commit_refused stage = Some Busy

abbrev pub rollback_refused : Stage → Option Why
rollback_refused Queued = Some Busy
rollback_refused Placed = Some Busy
rollback_refused stage = None

-- why an event can't be now
abbrev pub refusal : Event → Option Session → Option Why
refusal (Begin s) None = None
refusal (Begin s) (Some x) = Some (begin_refused x.stage)
refusal (Start s op) (Some x) = start_refused x.stage
refusal (Name s) (Some x) = name_refused x.stage
refusal (Plan s) (Some x) = plan_refused x.stage
refusal (Ask s) (Some x) = ask_refused x.stage
refusal (Apply s) (Some x) = apply_refused x.stage
refusal (AskCommit s) (Some x) = commit_refused x.stage
refusal (Rollback s) (Some x) = rollback_refused x.stage
refusal Flush x = None
refusal Clean x = None
refusal event None = Some NoTxn

abbrev pub refused : Option Why → Option Answer
refused None = None
refused (Some why) = Some (Refused why)

-- the operation that is under way
abbrev pub under_way : Stage → ℕ
under_way (Started op) = 1
under_way (NameWait op) = 1
under_way (Named op) = 1
under_way (NeedWait op) = 1
under_way (Planned op left) = 1
under_way stage = 0

-- how many operations open transactions keep, and how many the audit does
abbrev pub open_operations : List Session → ℕ
open_operations xs = sum_by (λ x. length x.txn.ops + under_way x.stage) (filter is_active xs)

abbrev pub kept_operations : List Commit → ℕ
kept_operations commits = sum_by (λ c. length c.ops) commits

abbrev pub open_transactions : List Session → ℕ
open_transactions xs = length (filter is_active xs)

-- the most open transactions, endings kept (commits and deadlocks), operations of a transaction, operations kept, and numbers
abbrev pub most_transactions : ℕ
most_transactions = 64

abbrev pub most_endings : ℕ
most_endings = 2 ^ 20

abbrev pub most_operations : ℕ
most_operations = 4096

abbrev pub most_history : ℕ
most_history = 2 ^ 22

abbrev pub first_unused : ℕ
first_unused = 2 ^ 63

-- the limit that a begin or a start stands at
abbrev pub full : Event → Option Session → Kernel → Option Answer
full (Begin s) x k = first_of (
    answer_if (nat_le first_unused k.next_txn) (Full Numbers)
    ∷ answer_if (nat_le most_transactions (open_transactions k.sessions)) (Full Transactions)
    ∷ answer_if (nat_le most_endings (length k.commits + length k.ended + open_transactions k.sessions)) (Full Commits)
    ∷ [])
full (Start s op) (Some x) k = first_of (
    answer_if (nat_le most_operations (length x.txn.ops)) (Full Operations)
    ∷ answer_if (nat_le most_history (kept_operations k.commits + open_operations k.sessions)) (Full History)
    ∷ [])
full event x k = None

abbrev pub still_for : Option Row → Option Answer
still_for None = None
still_for (Some row) = Some (Still row.name)

-- the session's own row still waits
abbrev pub still : Event → List Row → Option Answer
still (Name s) rows = still_for (waiting_in s rows)
still (Plan s) rows = still_for (waiting_in s rows)
still event rows = None

abbrev pub is_search : Op → Bool
is_search (Get id) = true
is_search (Find rect) = true
is_search op = false

-- The latch is held by the sessions that have planned; searches share it.
abbrev pub holds_latch : Bool → Stage → Bool
holds_latch shared (Planned op left) = not (shared && is_search op)
holds_latch shared stage = false

abbrev pub first_holder : Bool → (Session → Bool) → List Session → Option Answer
first_holder shared others [] = None
first_holder shared others (x ∷ xs) = cond (others x && holds_latch shared x.stage) (Some (LatchBusy x.txn.session)) (first_holder shared others xs)

abbrev pub shares : Stage → Bool
shares (Named op) = is_search op
shares (NeedWait op) = is_search op
shares stage = false

-- another session holds the latch against a plan, or anybody against a removal; the least such session, as the sessions stand by number
abbrev pub latched : Event → Option Session → List Session → Option Answer
latched (Plan s) (Some x) xs = first_holder (shares x.stage) (λ y. not (nat_eq y.txn.session s)) xs
latched Clean x xs = first_holder false (λ y. true) xs
latched event x xs = None

-- the answer to an event that changes nothing, if it is one
abbrev pub turned_away : Kernel → Event → Option Answer
turned_away k event = let x = found_for event k.sessions in first_of (
    stops k.stopped event x
    ∷ refused (refusal event x)
    ∷ full event x k
    ∷ still event k.locks
    ∷ latched event x k.sessions
    ∷ [])
