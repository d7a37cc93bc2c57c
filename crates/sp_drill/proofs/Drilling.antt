-- What an answer leaves to tell.
use Rattle.std.proofs.Common.{◌≡◌, ◌≢◌, ℕ, [], refl}
use Rattle.sp_event.specs.declared.answer.Answer.{Answer}
use Rattle.sp_event.specs.declared.answer.Answer.TheVariants.{Began, Started, Granted, Planned, Reply, Committed, Queued, RolledBack, Waits, Deadlock, Still, LatchBusy, Refused, Full, Wrote, Durable, Nothing, Removed, Later, Stopped, DiskFault, Memory}
use Rattle.sp_model.specs.State.{Kernel}
use Rattle.sp_drill.specs.Drilling.{owed}

-- no place is left to tell where the answer is no batch's
pub owed_none : (k : Kernel) (answer : Answer) → ((first count : ℕ) → answer ≢ Durable first count) → owed k answer ≡ []
owed_none k (Durable first count) h = absurd (h first count refl)
owed_none k (Began txn seen) h = refl
owed_none k Started h = refl
owed_none k Granted h = refl
owed_none k (Planned n) h = refl
owed_none k (Reply r) h = refl
owed_none k (Committed p) h = refl
owed_none k Queued h = refl
owed_none k RolledBack h = refl
owed_none k (Waits name mode ss) h = refl
owed_none k (Deadlock c) h = refl
owed_none k (Still name) h = refl
owed_none k (LatchBusy s) h = refl
owed_none k (Refused why) h = refl
owed_none k (Full kind) h = refl
owed_none k Wrote h = refl
owed_none k Nothing h = refl
owed_none k (Removed e) h = refl
owed_none k (Later g s m) h = refl
owed_none k (Stopped o) h = refl
owed_none k DiskFault h = refl
owed_none k Memory h = refl
