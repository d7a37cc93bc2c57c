-- How a journal stands: what is written, what is in flight, what is queued, and what a stop may leave of it.
use Rattle.std.specs.Prelude.{◌≡◌, ◌≢◌, ◌⊎◌, ◌≤◌, ◌+◌, ℕ, List, [], ◌∷◌, ◌++◌, length, Some, unwrap_or}
use Rattle.sp_rect.specs.declared.record.Record.{Record}
use Rattle.sp_plain.specs.declared.change.Change.{Change}
use Rattle.sp_plain.specs.Taking.{taken}
use Rattle.sp_journal.specs.declared.types.Recovered.{Recovered}
use Rattle.sp_journal.specs.declared.types.Call.{Call}
use Rattle.sp_journal.specs.declared.types.Call.TheVariants.{Nothing, Wrote, Durable, Fault, Memory}
use Rattle.sp_journal.specs.declared.work.Phase.{Phase}
use Rattle.sp_journal.specs.declared.work.Phase.TheVariants.{Ready, Written, Settled, Opened, Broken}
use Rattle.sp_journal.specs.declared.work.Work.{Work}
use Rattle.sp_journal.specs.Format.{framed, batch_bytes, entry_bytes, AllCommits, IsBatch}
use Rattle.sp_journal.specs.Recovery.{Base, IsBase, head, all_changes, with_batch, Recovers, Holds}

-- What is written, the commits of the batch in flight, and those that are queued behind it.
pub record Ledger : Type 0 where
  pub base : Base
  pub flight : List (List Change)
  pub queued : List (List Change)

-- the records that changes leave, where they can be made
abbrev pub applied : List Change → List Record → List Record
applied changes records = unwrap_or (taken changes records) records

-- what is found with the batch of these commits
abbrev pub found_with : Base → List (List Change) → Recovered
found_with base commits = with_batch (applied (all_changes commits) base.found.records) (length commits) base.found

-- the base with that batch as one entry more
abbrev pub with_entry : Base → List (List Change) → Base
with_entry base commits = record {
  version = base.version;
  generation = base.generation;
  front = base.front ++ entry_bytes (batch_bytes commits);
  found = found_with base commits;
}

-- the file is recovered to what is written
abbrev pub IsBefore : Ledger → List ℕ → Type 0
IsBefore ledger file = Recovers file (Holds ledger.base.found)

-- the file is recovered to what is written and the batch in flight
abbrev pub IsAfter : Ledger → List ℕ → Type 0
IsAfter ledger file = Recovers file (Holds (found_with ledger.base ledger.flight))

abbrev pub IsBeforeOrAfter : Ledger → List ℕ → Type 0
IsBeforeOrAfter ledger file = IsBefore ledger file ⊎ IsAfter ledger file

-- What a read gives and what a stop may leave, in each phase of an entry.
abbrev pub Lies : Phase → Ledger → List ℕ → (List ℕ → Type 0) → Type 0
Lies Ready ledger reads leaves =
    (gate : ℕ) × (tail : List ℕ) × (gate ≢ 1) × (reads ≡ head ledger.base ++ gate ∷ tail) × ((file : List ℕ) → leaves file → file ≡ reads)
Lies Written ledger reads leaves =
    (gate : ℕ) × (tail : List ℕ) × (gate ≢ 1) × (reads ≡ head ledger.base ++ gate ∷ (framed ledger.flight ++ tail))
    × ((file : List ℕ) → leaves file → (rest : List ℕ) × (file ≡ head ledger.base ++ gate ∷ rest))
Lies Settled ledger reads leaves =
    (gate : ℕ) × (tail : List ℕ) × (gate ≢ 1) × (reads ≡ head ledger.base ++ gate ∷ (framed ledger.flight ++ tail)) × ((file : List ℕ) → leaves file → file ≡ reads)
Lies Opened ledger reads leaves =
    (tail : List ℕ) × (reads ≡ head ledger.base ++ 1 ∷ (framed ledger.flight ++ tail))
    × ((file : List ℕ) → leaves file → (gate : ℕ) × (file ≡ head ledger.base ++ gate ∷ (framed ledger.flight ++ tail)))
Lies Broken ledger reads leaves = (file : List ℕ) → leaves file → IsBeforeOrAfter ledger file

-- Between two entries nothing is in flight.
abbrev pub IsInFlight : Phase → List (List Change) → Type 0
IsInFlight Ready flight = flight ≡ []
IsInFlight Written flight = IsBatch flight
IsInFlight Settled flight = IsBatch flight
IsInFlight Opened flight = IsBatch flight
IsInFlight Broken flight = Unit {0}

-- Once the batch in flight is written, the next gate is known.
abbrev pub IsNext : Phase → ℕ → ℕ → ℕ → Type 0
IsNext Ready end next size = Unit {0}
IsNext Written end next size = next ≡ end + size
IsNext Settled end next size = next ≡ end + size
IsNext Opened end next size = next ≡ end + size
IsNext Broken end next size = Unit {0}

-- The journal stands so, over a disk that reads so and of which a stop leaves these files.
pub record Stands (reads : List ℕ) (leaves : List ℕ → Type 0) (work : Work) (ledger : Ledger) : Type 0 where
  pub base : IsBase ledger.base
  pub settled : 2 ≤ ledger.base.generation → 1 ≤ length ledger.base.front
  pub end : work.end ≡ length (head ledger.base)
  pub next : IsNext work.phase work.end work.next (length work.flight.items)
  pub flight_bytes : work.flight.items ≡ framed ledger.flight
  pub flying : work.flying ≡ length ledger.flight
  pub in_flight : IsInFlight work.phase ledger.flight
  pub queued_bytes : work.queued.items ≡ framed ledger.queued
  pub commits : work.commits ≡ length ledger.queued
  pub each : AllCommits ledger.queued
  pub records : List Record
  pub apply : taken (all_changes (ledger.flight ++ ledger.queued)) ledger.base.found.records ≡ Some records
  pub file : Lies work.phase ledger reads leaves

-- The ledger after a call of that answer in that phase: the queued batch takes off as its body is written,
-- and becomes an entry as it is settled.
abbrev pub turned : Phase → Call → Ledger → Ledger
turned Ready Wrote ledger = record { base = ledger.base; flight = ledger.queued; queued = [] }
turned Opened (Durable n) ledger = record { base = with_entry ledger.base ledger.flight; flight = []; queued = ledger.queued }
turned phase answer ledger = ledger

-- What a stop at any moment of a call in that phase leaves: the batch in flight only once its gate is written.
abbrev pub MayLeave : Phase → Ledger → List ℕ → Type 0
MayLeave Ready ledger file = IsBefore ledger file
MayLeave Written ledger file = IsBefore ledger file
MayLeave Settled ledger file = IsBeforeOrAfter ledger file
MayLeave Opened ledger file = IsBeforeOrAfter ledger file
MayLeave Broken ledger file = IsBeforeOrAfter ledger file

-- The phase after a call of the disk that was made.
abbrev pub next_phase : Phase → Phase
next_phase Ready = Written
next_phase Written = Settled
next_phase Settled = Opened
next_phase Opened = Ready
next_phase Broken = Broken

-- The call is one of the first three of an entry: body, sync, gate.
abbrev pub IsEarly : Phase → Type 0
IsEarly Ready = Unit {0}
IsEarly Written = Unit {0}
IsEarly Settled = Unit {0}
IsEarly Opened = ⊥
IsEarly Broken = ⊥

-- The same work in another phase.
pub record Keeps (old new : Work) : Type 0 where
  pub end : new.end ≡ old.end
  pub next : new.next ≡ old.next
  pub flight : new.flight.items ≡ old.flight.items
  pub flying : new.flying ≡ old.flying
  pub queued : new.queued.items ≡ old.queued.items
  pub commits : new.commits ≡ old.commits
  pub changes : new.changes ≡ old.changes

-- What an answer says of the work before and after the call.
abbrev pub Answered : Phase → Call → Work → Work → Type 0
Answered phase Nothing old new = (phase ≡ Ready) × (old.commits ≡ 0) × (new ≡ old)
Answered phase Wrote old new = IsEarly phase × (new.phase ≡ next_phase phase)
Answered phase (Durable n) old new = (phase ≡ Opened) × (n ≡ old.flying) × (new.phase ≡ Ready)
Answered phase (Fault at) old new = (at ≡ old.end) × (new.phase ≡ Broken) × Keeps old new
Answered phase Memory old new = new ≡ old

-- The ledger with a commit more behind those that are queued.
abbrev pub queued_behind : Ledger → List Change → Ledger
queued_behind ledger changes = record { base = ledger.base; flight = ledger.flight; queued = ledger.queued ++ changes ∷ [] }

-- What is queued after a call: the queue is empty once its batch has taken off.
abbrev pub queued_after : Phase → Call → ℕ → ℕ
queued_after Ready Wrote n = 0
queued_after phase answer n = n

-- The commits in flight after a call: those that were queued once their body is written, none once they are settled.
abbrev pub flying_after : Phase → Call → ℕ → ℕ → ℕ
flying_after Ready Wrote flying commits = commits
flying_after Opened (Durable n) flying commits = 0
flying_after phase answer flying commits = flying
