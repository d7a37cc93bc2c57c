-- The operations that wait, in the order in which they go on.
use Rattle.std.specs.Prelude.{◌≡◌, ℕ, ◌<◌, Bool, true, false, not, nat_eq, List, [], ◌∷◌, filter, slice_get, Option, Some, None}
use Rattle.sp_rect.specs.declared.operation.Op.{Op}
use Rattle.sp_event.specs.declared.answer.Answer.{Answer}
use Rattle.sp_event.specs.declared.answer.Answer.TheVariants.{Still, Waits, RolledBack}
use Rattle.sp_model.specs.State.{Kernel}
use Rattle.sp_model.specs.Refusals.{turned_away}
use Rattle.sp_desk.specs.declared.point.Point.{Point}
use Rattle.sp_desk.specs.declared.stalled.Stalled.{Stalled}
use Rattle.sp_desk.specs.Points.{event_at, resumed}
use Rattle.sp_desk.specs.Working.{Proceeds}
use Rattle.sp_desk.specs.Cleaning.{fault_in}

abbrev pub says_still : Option Answer → Bool
says_still (Some (Still name)) = true
says_still answer = false

-- the session's operation still waits there
abbrev pub still_waits : Kernel → ℕ → Point → Bool
still_waits k s point = says_still (turned_away k (event_at s point))

abbrev pub is_still : Kernel → Stalled → Bool
is_still k x = still_waits k x.session x.point

-- so many first ones of these operations still wait
abbrev pub WaitBelow : Kernel → List Stalled → ℕ → Type 0
WaitBelow k waiting count = (i : ℕ) (x : Stalled) → i < count → slice_get waiting i ≡ Some x → is_still k x ≡ true

-- every one of them still waits
abbrev pub AllWait : Kernel → List Stalled → Type 0
AllWait k waiting = (i : ℕ) (x : Stalled) → slice_get waiting i ≡ Some x → is_still k x ≡ true

-- an operation waits at the end of the list where it is answered so
abbrev pub stalled_by : ℕ → Op → Answer → Point → List Stalled
stalled_by s op (Waits name mode sessions) at = record { session = s; op = op; point = resumed at } ∷ []
stalled_by s op answer at = []

-- a session that is rolled back waits no more
abbrev pub freed_by : ℕ → Answer → List Stalled → List Stalled
freed_by s RolledBack waiting = filter (λ x. not (nat_eq x.session s)) waiting
freed_by s answer waiting = waiting

-- the first operation that no longer waits, at that place, goes on to its answer
pub record Wakes (k : Kernel) (waiting : List Stalled) (place : ℕ) (x : Stalled) (answer : Answer) (at : Point) (after : Kernel) : Type 0 where
  pub found : slice_get waiting place ≡ Some x
  pub first : WaitBelow k waiting place
  pub awake : is_still k x ≡ false
  pub proceeds : Proceeds x.session x.point k answer at after

-- some operation at that place goes on so; where the answer is a fault it may have been the first that came
pub record WakesSo (k : Kernel) (waiting : List Stalled) (place : ℕ) (answer : Answer) (at : Point) (after : Kernel) : Type 0 where
  pub stalled : Stalled
  pub found : slice_get waiting place ≡ Some stalled
  pub wakes : fault_in answer ≡ None → Wakes k waiting place stalled answer at after
