-- How a kernel agrees with the ledger of its journal, whatever the disk, and with the work of the journal.
use Rattle.std.specs.Prelude.{◌≡◌, ℕ, zero, suc, List, length, Option, Some, None}
use Rattle.std.specs.List.{sum_by}
use Rattle.sp_node.specs.declared.node.Entry.{Entry}
use Rattle.sp_txn.specs.Changes.{changes_of}
use Rattle.sp_txn.specs.Visible.{live}
use Rattle.sp_event.specs.declared.answer.Answer.{Answer}
use Rattle.sp_event.specs.declared.answer.Answer.TheVariants.{Wrote as IsWritten, Durable as IsDurable}
use Rattle.sp_journal.specs.declared.types.Call.{Call}
use Rattle.sp_journal.specs.declared.types.Call.TheVariants.{Nothing, Wrote, Durable}
use Rattle.sp_journal.specs.declared.work.Phase.{Phase}
use Rattle.sp_journal.specs.declared.work.Phase.TheVariants.{Ready, Written, Settled, Opened, Broken}
use Rattle.sp_journal.specs.declared.work.Work.{Work}
use Rattle.sp_journal.specs.Standing.{Ledger}
use Rattle.sp_model.specs.declared.session.Session.{Session}
use Rattle.sp_model.specs.State.{Kernel, entries_in, session_at}
use Rattle.sp_durable.specs.Held.{AreHeld}

-- what is written are the live records, and what is in flight and queued are the changes of the sessions there
pub record Matches (k : Kernel) (ledger : Ledger) : Type 0 where
  pub records : ledger.base.found.records ≡ live (entries_in k)
  pub flight : AreHeld k k.flight ledger.flight
  pub queued : AreHeld k k.queue ledger.queued

-- how far the calls for a batch have come, where no disk call has failed
abbrev pub phase_after : ℕ → Phase
phase_after zero = Ready
phase_after (suc zero) = Written
phase_after (suc (suc zero)) = Settled
phase_after (suc (suc (suc calls))) = Opened

abbrev pub phase_of : Option ℕ → ℕ → Phase
phase_of None calls = phase_after calls
phase_of (Some offset) calls = Broken

-- the call of the journal by which a flush is answered
abbrev pub call_of : Answer → Call
call_of IsWritten = Wrote
call_of (IsDurable first count) = Durable count
call_of answer = Nothing

-- how many changes the transaction of a session makes
abbrev pub changes_by : List Entry → Option Session → ℕ
changes_by es None = 0
changes_by es (Some x) = length (changes_of x.txn.number es)

-- how many changes the queued commits make
abbrev pub changes_queued : Kernel → ℕ
changes_queued k = sum_by (λ s. changes_by (entries_in k) (session_at s k.sessions)) k.queue

-- the work has the phase and the counts of the kernel, and the offset of its fault
pub record Counted (k : Kernel) (work : Work) : Type 0 where
  pub phase : work.phase ≡ phase_of k.stopped k.calls
  pub flying : work.flying ≡ length k.flight
  pub commits : work.commits ≡ length k.queue
  pub changes : work.changes ≡ changes_queued k
  pub end : (offset : ℕ) → k.stopped ≡ Some offset → offset ≡ work.end
