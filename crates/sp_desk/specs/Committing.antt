-- The commit of a session's transaction, up to its place.
use Rattle.std.specs.Prelude.{◌≢◌, ℕ}
use Rattle.sp_event.specs.declared.event.Event.TheVariants.{Commit, Flush}
use Rattle.sp_event.specs.declared.answer.Answer.{Answer}
use Rattle.sp_event.specs.declared.answer.Answer.TheVariants.{Queued, Wrote, Durable}
use Rattle.sp_model.specs.State.{Kernel}
use Rattle.sp_kernel.specs.Answers.{Answers}

-- calls of the disk for a batch were made
pub data Writes (k : Kernel) : Kernel → Type 0 where
  Stays : Writes k k
  Goes : {m : Kernel} → Writes k m → (n : Kernel) → Answers m Flush Wrote n → Writes k n

-- the batch in flight, or else the one that waits, is on the disk
pub record Stores (k after : Kernel) : Type 0 where
  pub before : Kernel
  pub writes : Writes k before
  pub first : ℕ
  pub count : ℕ
  pub durable : Answers before Flush (Durable first count) after

-- while the transaction was queued, batches were stored
pub data Queues (s : ℕ) (k : Kernel) : Kernel → Type 0 where
  Stays : Queues s k k
  Goes : {m : Kernel} → Queues s k m → (queued n : Kernel) → Answers m (Commit s) Queued queued → Stores queued n → Queues s k n

-- the answer to a commit: the first that isn't that it is queued
pub record Commits (s : ℕ) (k : Kernel) (answer : Answer) (after : Kernel) : Type 0 where
  pub before : Kernel
  pub queues : Queues s k before
  pub answered : Answers before (Commit s) answer after
  pub over : answer ≢ Queued
