-- An operation of a session, event by event up to its answer.
use Rattle.std.specs.Prelude.{◌≡◌, ◌≢◌, ℕ, Some, None}
use Rattle.sp_rect.specs.declared.operation.Op.{Op}
use Rattle.sp_event.specs.declared.event.Event.TheVariants.{Start}
use Rattle.sp_event.specs.declared.answer.Answer.{Answer}
use Rattle.sp_event.specs.declared.answer.Answer.TheVariants.{Started}
use Rattle.sp_model.specs.State.{Kernel}
use Rattle.sp_kernel.specs.Answers.{Answers}
use Rattle.sp_desk.specs.declared.point.Point.{Point}
use Rattle.sp_desk.specs.declared.point.Point.TheVariants.{Object}
use Rattle.sp_desk.specs.Points.{event_at, next_after}

-- all that the session asked from the one point to the other was granted
pub data Reaches (s : ℕ) (from : Point) (k : Kernel) : Point → Kernel → Type 0 where
  Stays : Reaches s from k from k
  Goes : {point : Point} {m : Kernel} → Reaches s from k point m → (answer : Answer) (next : Point) (n : Kernel)
      → Answers m (event_at s point) answer n → next_after point answer ≡ Some next → Reaches s from k next n

-- the operation goes on from a point to its answer, the first by which it goes no further; at is the point where that came
pub record Proceeds (s : ℕ) (from : Point) (k : Kernel) (answer : Answer) (at : Point) (after : Kernel) : Type 0 where
  pub before : Kernel
  pub reaches : Reaches s from k at before
  pub answered : Answers before (event_at s at) answer after
  pub over : next_after at answer ≡ None

-- an operation of a session is started, and goes on to its answer; where it can't be started that is its answer
pub data Operates (s : ℕ) (op : Op) (k : Kernel) : Answer → Point → Kernel → Type 0 where
  IsRefused : (answer : Answer) (at : Point) (after : Kernel) → Answers k (Start s op) answer after → answer ≢ Started → Operates s op k answer at after
  IsStarted : (started : Kernel) (answer : Answer) (at : Point) (after : Kernel) → Answers k (Start s op) Started started
      → Proceeds s Object started answer at after → Operates s op k answer at after
