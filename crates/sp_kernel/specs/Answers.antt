-- What a kernel over a disk answers to an event, and what that leaves of it.
use Rattle.std.specs.Prelude.{◌≡◌, ◌≢◌, ℕ, Bool, true, IsTrue, List, [], ◌∷◌, ◌++◌, None, Some}
use Rattle.sp_event.specs.declared.event.Event.{Event}
use Rattle.sp_event.specs.declared.event.Event.TheVariants.{Commit, Flush, Rollback}
use Rattle.sp_event.specs.declared.answer.Answer.{Answer}
use Rattle.sp_event.specs.declared.answer.Answer.TheVariants.{DiskFault, Memory}
use Rattle.sp_event.specs.declared.step.Step.{Step}
use Rattle.sp_model.specs.declared.session.Session.{Session}
use Rattle.sp_model.specs.declared.session.Stage.TheVariants.{Idle}
use Rattle.sp_model.specs.State.{Kernel}
use Rattle.sp_model.specs.Refusals.{turned_away}
use Rattle.sp_model.specs.Removal.{IsTakenOut}
use Rattle.sp_model.specs.Stepped.{Stepped, IsAt, has_changes}

-- the event asks nothing of the disk or the journal
abbrev pub NeedsNoDisk : Event → Type 0
NeedsNoDisk (Commit s) = ⊥
NeedsNoDisk Flush = ⊥
NeedsNoDisk event = Unit {0}

-- the session is idle, and its transaction has changes
abbrev pub HasToQueue : Kernel → ℕ → Type 0
HasToQueue k s = (x : Session) × IsAt k s x × (x.stage ≡ Idle) × (has_changes k x ≡ true)

-- The event may want memory: a rollback never does, a commit only where it has to queue changes, and a flush only over a disk that takes memory.
abbrev pub MayWant : Bool → Kernel → Event → Type 0
MayWant takes k (Rollback s) = ⊥
MayWant takes k (Commit s) = HasToQueue k s
MayWant takes k Flush = IsTrue takes
MayWant takes k event = Unit {0}

-- after a fault of the disk at the entry of that offset
abbrev pub stopped_at : ℕ → Kernel → Kernel
stopped_at offset k = record k { stopped = Some offset }

-- one event with its answer: it is stepped; or there is no memory, and nothing changes; or it is a flush, there is a call to make for a batch, and the disk fails: then the kernel is stopped, and nothing else changes
pub data Answers (k : Kernel) (event : Event) : Answer → Kernel → Type 0 where
  IsStepped : (answer : Answer) (after : Kernel) → Stepped IsTakenOut k event answer after → Answers k event answer after
  WantsMemory : Answers k event Memory k
  Fails : (offset : ℕ) → event ≡ Flush → turned_away k event ≡ None → k.flight ++ k.queue ≢ [] → Answers k event DiskFault (stopped_at offset k)

-- these events with their answers, one after the other, lead from one kernel to another
pub data Histories : Kernel → List Step → Kernel → Type 0 where
  Stays : {k : Kernel} → Histories k [] k
  Goes : {k last : Kernel} (between : Kernel) (steps : List Step) (step : Step) → Histories k steps between → Answers between step.event step.answer last → Histories k (steps ++ step ∷ []) last
