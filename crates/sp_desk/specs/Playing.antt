-- A script of commands over a kernel: its items, one after the other.
use Rattle.std.specs.Prelude.{◌≡◌, ℕ, ◌<◌, true, false, List, [], ◌∷◌, ◌++◌, length, Option, Some, None}
use Rattle.std.specs.List.{remove}
use Rattle.sp_rect.specs.declared.operation.Op.{Op}
use Rattle.sp_event.specs.declared.event.Event.TheVariants.{Begin as BeginEvent, Rollback as RollbackEvent}
use Rattle.sp_event.specs.declared.answer.Answer.{Answer}
use Rattle.sp_event.specs.declared.answer.Answer.TheVariants.{RolledBack, Refused}
use Rattle.sp_event.specs.declared.answer.Why.{Why}
use Rattle.sp_text.specs.declared.types.Command.{Command}
use Rattle.sp_text.specs.declared.types.Command.TheVariants.{Begin, Do, Commit, Rollback}
use Rattle.sp_text.specs.declared.types.Bad.{Bad as Reason}
use Rattle.sp_text.specs.declared.types.Item.{Item}
use Rattle.sp_text.specs.declared.types.Item.TheVariants.{Bad, Told}
use Rattle.sp_model.specs.State.{Kernel}
use Rattle.sp_model.specs.Refusals.{turned_away}
use Rattle.sp_kernel.specs.Answers.{Answers}
use Rattle.sp_desk.specs.declared.point.Point.{Point}
use Rattle.sp_desk.specs.declared.stalled.Stalled.{Stalled}
use Rattle.sp_desk.specs.Working.{Operates}
use Rattle.sp_desk.specs.Committing.{Commits}
use Rattle.sp_desk.specs.Cleaning.{fault_in, Cleans}
use Rattle.sp_desk.specs.Waiting.{AllWait, Wakes, stalled_by, freed_by}

-- an operation of a session is answered so, and waits at the end of the list where that is its answer
pub record DoesSo (s : ℕ) (k : Kernel) (waiting : List Stalled) (op : Op) (answer : Answer) (after : Kernel) (waiting_then : List Stalled) : Type 0 where
  pub at : Point
  pub operates : Operates s op k answer at after
  pub stalled : waiting_then ≡ waiting ++ stalled_by s op answer at

-- a command of a session with its answer: from a kernel and those that wait to these afterwards
pub data Does (s : ℕ) (k : Kernel) (waiting : List Stalled) : Command → Answer → Kernel → List Stalled → Type 0 where
  Begins : (answer : Answer) (after : Kernel) → Answers k (BeginEvent s) answer after → Does s k waiting Begin answer after waiting
  Operating : (op : Op) (answer : Answer) (after : Kernel) (waiting_then : List Stalled) → DoesSo s k waiting op answer after waiting_then
      → Does s k waiting (Do op) answer after waiting_then
  Committing : (answer : Answer) (after : Kernel) → Commits s k answer after → Does s k waiting Commit answer after waiting
  RollsBack : (answer : Answer) (after : Kernel) → Answers k (RollbackEvent s) answer after → Does s k waiting Rollback answer after (freed_by s answer waiting)

-- a line is to be heard; those that wait are to go on after one; the input has ended
pub data Turn : Type 0 where
  Hearing : Turn
  GoingOn : Turn
  Closing : Turn

-- the session has no transaction that can be rolled back
pub record IsOver (k : Kernel) (s : ℕ) : Type 0 where
  pub why : Why
  pub refused : turned_away k (RollbackEvent s) ≡ Some (Refused why)

abbrev pub AreOver : Kernel → ℕ → Type 0
AreOver k count = (s : ℕ) → s < count → IsOver k s

-- These items, one after the other, lead from a kernel and the operations that wait to others: a bad line changes nothing; after the answer to a command the first operation that no longer waits goes on, again and again, until all wait, and then each dead entry is tried once; at the end of the input the transactions that are left are rolled back by ascending number of their sessions.
pub data Plays (k : Kernel) (waiting : List Stalled) (turn : Turn) : List Item → Kernel → List Stalled → Turn → Type 0 where
  Stays : Plays k waiting turn [] k waiting turn
  HearsBad : {items : List Item} {m : Kernel} {w : List Stalled} → Plays k waiting turn items m w Turn.Hearing
      → (session : Option ℕ) (bad : Reason) → Plays k waiting turn (items ++ Bad session bad ∷ []) m w Turn.Hearing
  Hears : {items : List Item} {m : Kernel} {w : List Stalled} → Plays k waiting turn items m w Turn.Hearing
      → (s : ℕ) (command : Command) (answer : Answer) (n : Kernel) (v : List Stalled) → Does s m w command answer n v → fault_in answer ≡ None
      → Plays k waiting turn (items ++ Told s command answer false ∷ []) n v Turn.GoingOn
  GoesOn : {items : List Item} {m : Kernel} {w : List Stalled} → Plays k waiting turn items m w Turn.GoingOn
      → (place : ℕ) (x : Stalled) (answer : Answer) (at : Point) (n : Kernel) → Wakes m w place x answer at n → fault_in answer ≡ None
      → Plays k waiting turn (items ++ Told x.session (Do x.op) answer true ∷ []) n (remove w place ++ stalled_by x.session x.op answer at) Turn.GoingOn
  Rests : {items : List Item} {m : Kernel} {w : List Stalled} → Plays k waiting turn items m w Turn.GoingOn
      → AllWait m w → (n : Kernel) → Cleans m (length m.dead) n → Plays k waiting turn items n w Turn.Hearing
  Ends : {items : List Item} {m : Kernel} {w : List Stalled} → Plays k waiting turn items m w Turn.Hearing → Plays k waiting turn items m w Turn.Closing
  Closes : {items : List Item} {m : Kernel} {w : List Stalled} → Plays k waiting turn items m w Turn.Closing
      → (s : ℕ) (n : Kernel) → AreOver m s → Answers m (RollbackEvent s) RolledBack n
      → Plays k waiting turn (items ++ Told s Rollback RolledBack true ∷ []) n w Turn.Closing
