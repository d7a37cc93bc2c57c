-- The answers that fit a command, by what the transcript has told so far.
use Rattle.std.specs.Prelude.{◌≡◌, ◌≢◌, ◌⊎◌, ℕ, ◌+◌, List, [], ◌∷◌}
use Rattle.sp_rect.specs.declared.record.Record.{Record}
use Rattle.sp_rect.specs.declared.operation.Op.{Op}
use Rattle.sp_rect.specs.Store.{replied}
use Rattle.sp_locks.specs.declared.mode.Mode.{Mode}
use Rattle.sp_locks.specs.declared.row.Name.{Name}
use Rattle.sp_waits.specs.declared.edge.Edge.{Edge}
use Rattle.sp_node.specs.Among.{Among}
use Rattle.sp_event.specs.declared.answer.Answer.{Answer}
use Rattle.sp_event.specs.declared.answer.Answer.TheVariants.{Began, Reply, Committed, RolledBack, Waits, Deadlock, Refused, Full}
use Rattle.sp_event.specs.declared.answer.Why.TheVariants.{InTxn, NoTxn, Busy}
use Rattle.sp_event.specs.declared.answer.Kind.{Kind}
use Rattle.sp_text.specs.declared.types.Command.{Command}
use Rattle.sp_text.specs.declared.types.Command.TheVariants.{Begin, Do, Commit, Rollback}
use Rattle.sp_conduct.specs.Standing.{Standing, standing_with}

-- What a command meets: how each session stands, the records that the transaction of each sees, the number of the transaction that begins next, and how many are committed.
pub record Scene : Type 0 where
  pub at : ℕ → Standing
  pub seen : ℕ → List Record
  pub next : ℕ
  pub committed : ℕ

-- whoever is in the way of a session has a transaction, and is somebody else
abbrev pub AreInTheWay : (ℕ → Standing) → ℕ → List ℕ → Type 0
AreInTheWay at s others = (others ≢ []) × ((v : ℕ) → Among v others → (v ≢ s) × (at v ≢ Standing.Out))

-- from u the edges lead to w, each from where the one before ends
abbrev pub JoinUp : ℕ → List Edge → ℕ → Type 0
JoinUp u [] w = u ≡ w
JoinUp u (e ∷ es) w = (e.from ≡ u) × JoinUp e.to es w

-- the session where the edge starts was told last that it waits for this mode on this name
abbrev pub WasTold : (ℕ → Standing) → Edge → Type 0
WasTold at e = (op : Op) × (at e.from ≡ Standing.Stalled op e.name e.wanted)

-- The edges lead from the session back to itself over other sessions, each of which was told of its wait.
abbrev pub IsCircle : (ℕ → Standing) → ℕ → List Edge → Type 0
IsCircle at s [] = ⊥
IsCircle at s (first ∷ others) = JoinUp s (first ∷ others) s × (others ≢ []) × ((e : Edge) → Among e others → (e.from ≢ s) × WasTold at e)

-- An operation of an open session is replied to as a plain store over the records that it sees does; or it waits for others; or that would close a circle; or a limit is reached.
abbrev pub OperationFits : Scene → ℕ → Op → Answer → Type 0
OperationFits sc s op (Reply reply) = reply ≡ replied op (sc.seen s)
OperationFits sc s op (Waits name mode others) = AreInTheWay sc.at s others
OperationFits sc s op (Deadlock circle) = IsCircle sc.at s circle
OperationFits sc s op (Full kind) = Unit {0}
OperationFits sc s op answer = ⊥

-- an operation is replied to, or a limit is reached
abbrev pub IsAnsweredAtOnce : Scene → ℕ → Op → Answer → Type 0
IsAnsweredAtOnce sc s op (Reply reply) = reply ≡ replied op (sc.seen s)
IsAnsweredAtOnce sc s op (Full kind) = Unit {0}
IsAnsweredAtOnce sc s op answer = ⊥

-- a transaction begins with the next number, and sees all that are committed; or a limit is reached
abbrev pub BeginFits : Scene → Answer → Type 0
BeginFits sc answer = (answer ≡ Began sc.next sc.committed) ⊎ ((kind : Kind) × (answer ≡ Full kind))

-- the answer to a command, by how its session stands
abbrev pub FitsAt : Standing → Scene → ℕ → Command → Answer → Type 0
FitsAt Standing.Out sc s Begin answer = BeginFits sc answer
FitsAt Standing.Out sc s command answer = answer ≡ Refused NoTxn
FitsAt was sc s Begin answer = answer ≡ Refused InTxn
FitsAt was sc s Rollback answer = answer ≡ RolledBack
FitsAt Standing.Open sc s (Do op) answer = OperationFits sc s op answer
FitsAt Standing.Open sc s Commit answer = answer ≡ Committed (sc.committed + 1)
FitsAt was sc s command answer = answer ≡ Refused Busy

abbrev pub CommandFits : Scene → ℕ → Command → Answer → Type 0
CommandFits sc s command answer = FitsAt (sc.at s) sc s command answer

-- an operation that was told to wait goes on, as one of an open session
pub record GoesOn (sc : Scene) (s : ℕ) (op : Op) (answer : Answer) : Type 0 where
  pub name : Name
  pub mode : Mode
  pub stalled : sc.at s ≡ Standing.Stalled op name mode
  pub fits : OperationFits (record sc { at = standing_with s Standing.Open sc.at }) s op answer

-- A late answer: an operation that was told to wait goes on, or a transaction that is left at the end is rolled back.
abbrev pub LateFits : Scene → ℕ → Command → Answer → Type 0
LateFits sc s (Do op) answer = GoesOn sc s op answer
LateFits sc s Rollback answer = (sc.at s ≢ Standing.Out) × (answer ≡ RolledBack)
LateFits sc s command answer = ⊥
