-- A file is opened for writing.
use Rattle.std.specs.Prelude.{◌≡◌, ◌⊎◌, ◌≤◌, ◌+◌, ◌↔◌, ℕ, List, []}
use Rattle.sp_disk.specs.Moments.{LeavesOnly}
use Rattle.sp_journal.specs.declared.kind.Kind.TheVariants.{Settled}
use Rattle.sp_journal.specs.declared.types.JournalError.{JournalError}
use Rattle.sp_journal.specs.declared.types.JournalError.TheVariants.{Foreign as SaysForeign, Damaged as SaysDamaged, Worn, Fault, Memory}
use Rattle.sp_journal.specs.declared.types.Recovered.{Recovered}
use Rattle.sp_journal.specs.declared.work.Work.{Work}
use Rattle.sp_journal.specs.Kinds.{IsKind, HasHeader}
use Rattle.sp_journal.specs.Recovery.{Base, Outcome, Foreign, Damaged, Holds, Recovers, NeedsMaking, new_file}
use Rattle.sp_journal.specs.Scanning.{Rests}
use Rattle.sp_journal.specs.Standing.{Ledger, Stands}

-- The file is recovered to what that one is.
abbrev pub RecoversAs : List ℕ → List ℕ → Type 0
RecoversAs was file = (outcome : Outcome) → Recovers was outcome → Recovers file outcome

-- What a stop leaves while a file is opened: from the first sync on, which is the first call, only files that have P.
-- Where that sync was refused, nothing else was done, and a stop leaves what it might have left before.
pub data Opens (before now : ℕ) (old new : ℕ → List ℕ → Type 0) (P : List ℕ → Type 0) : Type 0 where
  refused : now ≤ before + 1 → LeavesOnly before now old new (old before) → Opens before now old new P
  synced : (first : ℕ) → before ≤ first → first ≤ before + 1 → ((k : ℕ) (file : List ℕ) → first ≤ k → k ≤ now → new k file → P file) → ((k : ℕ) (file : List ℕ) → k ≤ before → new k file ↔ old k file) → Opens before now old new P

-- The file was settled and is as it was, or it was made anew, where that was due.
abbrev pub KeptOrMade : List ℕ → List ℕ → Type 0
KeptOrMade was reads = ((version generation : ℕ) × IsKind was (Settled version generation) × (reads ≡ was)) ⊎ (NeedsMaking was × (reads ≡ new_file))

-- The file begins with the header of that one, which is settled, or with the header of a new file, where that one was to be made anew.
pub data BeginsAs (was file : List ℕ) : Type 0 where
  as_settled : (version generation : ℕ) → IsKind was (Settled version generation) → HasHeader version generation file → BeginsAs was file
  as_new : NeedsMaking was → HasHeader 2 1 file → BeginsAs was file

-- Entries can be added at that offset, and a stop leaves what a read gives.
pub record IsReady (was reads : List ℕ) (leaves : List ℕ → Type 0) (end : ℕ) (found : Recovered) : Type 0 where
  pub base : Base
  pub found_is : base.found ≡ found
  pub rests : Rests reads end base
  pub only : (file : List ℕ) → leaves file → file ≡ reads
  pub kept : KeptOrMade was reads

-- A journal stands over the file, with what that is recovered to, and nothing in flight or queued.
pub record IsAttached (was reads : List ℕ) (leaves : List ℕ → Type 0) (work : Work) (found : Recovered) : Type 0 where
  pub recovered : Recovers was (Holds found)
  pub ledger : Ledger
  pub no_flight : ledger.flight ≡ []
  pub no_queue : ledger.queued ≡ []
  pub found_is : ledger.base.found ≡ found
  pub stands : Stands reads leaves work ledger
  pub kept : KeptOrMade was reads

-- what an error says of the file, which it leaves as it was
abbrev pub Refused : JournalError → List ℕ → List ℕ → Type 0
Refused SaysForeign was reads = Recovers was Foreign × (reads ≡ was)
Refused (SaysDamaged at) was reads = Recovers was (Damaged at) × (reads ≡ was)
Refused Worn was reads = ⊥
Refused Fault was reads = Unit {0}
Refused Memory was reads = Unit {0}
