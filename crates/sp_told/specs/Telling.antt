-- What a transcript has told, and what a kernel keeps of it.
use Rattle.std.specs.Prelude.{◌≡◌, ℕ, List, [], ◌∷◌, ◌++◌, map, nat_eq, Option, Some, None, cond}
use Rattle.std.specs.List.{IsDistinct, list_any}
use Rattle.sp_rect.specs.declared.operation.Op.{Op}
use Rattle.sp_rect.specs.declared.commit.Commit.{Commit}
use Rattle.sp_event.specs.declared.event.Event.{Event}
use Rattle.sp_event.specs.declared.event.Event.TheVariants.{Start, Name, Plan, Ask, Apply}
use Rattle.sp_event.specs.declared.answer.Answer.{Answer}
use Rattle.sp_event.specs.declared.answer.Answer.TheVariants.{Durable}
use Rattle.sp_text.specs.Transcripts.{Ledger, of_session, with_place, last_started}
use Rattle.sp_model.specs.declared.session.Session.{Session}
use Rattle.sp_model.specs.declared.session.Stage.{Stage}
use Rattle.sp_model.specs.declared.session.Stage.TheVariants.{Started, NameWait, Named, NeedWait, Planned}
use Rattle.sp_model.specs.State.{Kernel, is_active, session_at}
use Rattle.sp_model.specs.Refusals.{is_placed}
use Rattle.sp_model.specs.Stepped.{IsAt}

-- the session's transaction as a commit that has no place yet
abbrev pub without_place : Session → Commit
without_place x = record { session = x.txn.session; txn = x.txn.number; seen = x.txn.seen; place = 0; ops = x.txn.ops }

-- the open transaction of a session, if it has one
abbrev pub open_of : Option Session → List Commit
open_of None = []
open_of (Some x) = cond (is_active x) (without_place x ∷ []) []

-- the operation that is under way
abbrev pub operation_of : Stage → Option Op
operation_of (Started op) = Some op
operation_of (NameWait op) = Some op
operation_of (Named op) = Some op
operation_of (NeedWait op) = Some op
operation_of (Planned op left) = Some op
operation_of stage = None

-- whose places an answer leaves to be told, in their order: those of the batch in flight, where it is on the disk
abbrev pub owed : Kernel → Answer → List ℕ
owed k (Durable first count) = k.flight
owed k answer = []

-- what was told of transactions is what the kernel keeps, from the commits that it had before; the sessions owing are still to be told their places
pub record TellsCommits (before : List Commit) (l : Ledger) (k : Kernel) (owing : List ℕ) : Type 0 where
  -- the commits whose places are still to be told, which are of the sessions owing, each of them once
  pub late : List Commit
  pub sessions : map (λ c. c.session) late ≡ owing
  pub once : IsDistinct nat_eq owing
  -- a session is owing where its transaction has its place
  pub placed : (s : ℕ) → is_placed (session_at s k.sessions) ≡ list_any (nat_eq s) owing
  -- the kernel's commits are those of before, then those that were told, then those that are late
  pub commits : k.commits ≡ before ++ (l.done ++ late)
  -- what each session has pending is its open transaction, or its late commit but for the place
  pub pending : (s : ℕ) → of_session s l.pending ≡ open_of (session_at s k.sessions) ++ map (with_place 0) (of_session s late)

-- each session that has an operation under way was told of it last that it is started
pub record TellsStarted (l : Ledger) (k : Kernel) : Type 0 where
  pub last : (s : ℕ) (x : Session) (op : Op) → IsAt k s x → operation_of x.stage ≡ Some op → last_started s l.started ≡ Some op

-- what was told of events is what the kernel keeps: of transactions, and of operations that are under way
pub record Tells (before : List Commit) (l : Ledger) (k : Kernel) (owing : List ℕ) : Type 0 where
  pub commits : TellsCommits before l k owing
  pub started : TellsStarted l k

-- the event is one of those by which the session does the operation
abbrev pub IsOf : ℕ → Op → Event → Type 0
IsOf s op (Start n other) = (n ≡ s) × (other ≡ op)
IsOf s op (Name n) = n ≡ s
IsOf s op (Plan n) = n ≡ s
IsOf s op (Ask n) = n ≡ s
IsOf s op (Apply n) = n ≡ s
IsOf s op event = ⊥

-- where the session has an operation under way, it is this one
abbrev pub DoesNoOther : Kernel → ℕ → Op → Type 0
DoesNoOther k s op = (x : Session) (other : Op) → IsAt k s x → operation_of x.stage ≡ Some other → other ≡ op
