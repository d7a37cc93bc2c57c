-- How the sessions of a kernel stand between the commands of a script.
use Rattle.std.proofs.Common.{◌≡◌, ◌≢◌, ◌⊎◌, ℕ, ◌+◌, true, nat_eq, List, [], map, length, Option, None, Some}
use Rattle.std.specs.List.{IsDistinct}
use Rattle.sp_rect.specs.declared.record.Record.{Record}
use Rattle.sp_rect.specs.declared.operation.Op.{Op}
use Rattle.sp_rect.specs.declared.operation.Answered.{Answered}
use Rattle.sp_rect.specs.Serial.{records_after, after_all}
use Rattle.sp_locks.specs.declared.mode.Mode.{Mode}
use Rattle.sp_locks.specs.declared.row.Name.{Name}
use Rattle.sp_locks.specs.declared.row.Row.{Row}
use Rattle.sp_node.specs.Among.{Among}
use Rattle.sp_event.specs.declared.answer.Answer.{Answer}
use Rattle.sp_event.specs.declared.answer.Answer.TheVariants.{Began}
use Rattle.sp_text.specs.declared.types.Command.{Command}
use Rattle.sp_model.specs.declared.session.Session.{Session}
use Rattle.sp_model.specs.declared.session.Stage.{Stage}
use Rattle.sp_model.specs.declared.session.Stage.TheVariants.{Idle, NameWait, NeedWait}
use Rattle.sp_model.specs.State.{Kernel, session_at}
use Rattle.sp_model.specs.Stepped.{IsAt}
use Rattle.sp_desk.specs.declared.point.Point.{Point}
use Rattle.sp_desk.specs.declared.point.Point.TheVariants.{Object, Plan, Locks}
use Rattle.sp_desk.specs.declared.stalled.Stalled.{Stalled as Waiter}
use Rattle.sp_desk.proofs.Each.{Each}
use Rattle.sp_conduct.specs.Standing.{Standing, standing_with, stands_after}
use Rattle.sp_conduct.specs.Fitting.{Scene}

-- an operation of the session waits for the mode on the name, or has waited for it
pub record IsStalled (k : Kernel) (s : ℕ) (op : Op) (name : Name) (mode : Mode) : Type 0 where
  pub session : Session
  pub at : IsAt k s session
  pub stage : (session.stage ≡ NameWait op) ⊎ (session.stage ≡ NeedWait op)
  pub row : (r : Row) → Among r k.locks → r.session ≡ s → r.waiting ≡ true → (r.name ≡ name) × (r.mode ≡ mode)

abbrev pub StandsSo : Kernel → ℕ → Standing → Type 0
StandsSo k s Standing.Out = session_at s k.sessions ≡ None
StandsSo k s Standing.Open = (x : Session) × IsAt k s x × (x.stage ≡ Idle)
StandsSo k s (Standing.Stalled op name mode) = IsStalled k s op name mode

-- every session stands so; every one but s does
abbrev pub Rests : Kernel → (ℕ → Standing) → Type 0
Rests k at = (v : ℕ) → StandsSo k v (at v)

abbrev pub OthersRest : ℕ → Kernel → (ℕ → Standing) → Type 0
OthersRest s k at = (v : ℕ) → v ≢ s → StandsSo k v (at v)

-- an operation that waits stands at its point
abbrev pub StagedAt : Stage → Op → Point → Type 0
StagedAt stage op Object = stage ≡ NameWait op
StagedAt stage op Plan = stage ≡ NeedWait op
StagedAt stage op (Locks left) = ⊥

abbrev pub WaitsAt : Kernel → Waiter → Type 0
WaitsAt k x = (y : Session) × IsAt k x.session y × StagedAt y.stage x.op x.point

-- each session waits once
pub record AreWaiting (k : Kernel) (w : List Waiter) : Type 0 where
  pub each : Each (WaitsAt k) w
  pub once : IsDistinct nat_eq (map (λ x. x.session) w)

-- what the transaction of a session sees, by the kernel
abbrev pub pairs_at : Option Session → List Answered
pairs_at None = []
pairs_at (Some x) = x.txn.ops

abbrev pub seen_in : Kernel → ℕ → List Record
seen_in k s = records_after (after_all k.base k.commits) (pairs_at (session_at s k.sessions))

abbrev pub scene_in : Kernel → (ℕ → Standing) → Scene
scene_in k at = record { at = at; seen = seen_in k; next = k.next_txn; committed = length k.commits }

-- the number of the next transaction, after an answer
abbrev pub next_begun : Answer → ℕ → ℕ
next_begun (Began txn seen) next = next + 1
next_begun answer next = next

-- a command left the sessions as its answer says, and nothing else that a scene has
pub record Leaves (k n : Kernel) (at : ℕ → Standing) (s : ℕ) (command : Command) (answer : Answer) : Type 0 where
  pub rests : Rests n (standing_with s (stands_after command answer (at s)) at)
  pub next : n.next_txn ≡ next_begun answer k.next_txn
  pub base : n.base ≡ k.base

-- Of the sessions other than s nothing changed, but that what waited may wait no more.
pub record KeepsOthers (s : ℕ) (k n : Kernel) : Type 0 where
  pub sessions : (v : ℕ) → v ≢ s → session_at v n.sessions ≡ session_at v k.sessions
  pub rows : (r : Row) → Among r n.locks → r.waiting ≡ true → r.session ≢ s → Among r k.locks
