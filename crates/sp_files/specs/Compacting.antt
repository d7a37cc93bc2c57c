-- What a compaction does to the two files, by their names.
use Rattle.std.specs.Prelude.{◌≡◌, ◌+◌, ◌-◌, ◌^◌, ◌<◌, ◌≤◌, not, ℕ, Bool, false, if◌then◌else◌, List, length, Option}
use Rattle.std.specs.Io.KnownBytes.{Appends}
use Rattle.sp_io.specs.Streams.{AppendsFront}
use Rattle.sp_journal.specs.declared.types.Recovered.{Recovered}
use Rattle.sp_journal.specs.declared.types.JournalError.{JournalError}
use Rattle.sp_journal.specs.declared.types.JournalError.TheVariants.{Foreign as SaysForeign, Damaged as SaysDamaged, Worn as SaysWorn, Fault, Memory as NoMemory}
use Rattle.sp_journal.specs.Format.{IsCheckpoint}
use Rattle.sp_journal.specs.Recovery.{Holds, Foreign as HoldsForeign, Damaged as HoldsDamage}
use Rattle.sp_pair.specs.Compacting.{next_generation, compacted, HoldAsBefore}
use Rattle.sp_pair.specs.Pairs.{IsChosen, RecoversPair}
use Rattle.sp_pair.specs.Settling.{Looked}
use Rattle.sp_report.specs.Report.{compact_text}
use Rattle.sp_files.specs.declared.ending.FileEnd.{FileEnd}
use Rattle.sp_files.specs.declared.ending.FileEnd.TheVariants.{Written, WriteFault, DiskFault, Foreign, Damaged, Worn, Memory}

-- Of two files that hold so many records the current one stays, and the other has become that of this generation, the
-- next one, with one entry, the checkpoint of the records. It is then current.
pub record Renews (main alt main' alt' : List ℕ) (generation count : ℕ) : Type 0 where
  pub is_alt : Bool
  pub version : ℕ
  pub own : ℕ
  pub chosen : IsChosen main alt is_alt version own
  pub found : Recovered
  pub held : RecoversPair main alt (Holds found)
  pub valid : IsCheckpoint found.records
  pub count_is : count ≡ length found.records
  pub early : own + 1 < 2 ^ 63
  pub next : generation ≡ next_generation own
  pub made : (if is_alt then main' else alt') ≡ compacted generation found.records
  pub kept : (if is_alt then alt' else main') ≡ (if is_alt then alt else main)
  pub newest : (is : ℕ) × IsChosen main' alt' (not is_alt) is generation

-- The two hold records, and the current one has the last generation that there is.
pub record IsWorn (main alt : List ℕ) : Type 0 where
  pub is_alt : Bool
  pub version : ℕ
  pub chosen : IsChosen main alt is_alt version (2 ^ 63 - 1)
  pub found : Recovered
  pub held : RecoversPair main alt (Holds found)

-- what an error of a compaction says of the two files
abbrev pub Refuses : JournalError → List ℕ → List ℕ → Type 0
Refuses SaysForeign main alt = RecoversPair main alt HoldsForeign
Refuses (SaysDamaged at) main alt = RecoversPair main alt (HoldsDamage at)
Refuses SaysWorn main alt = IsWorn main alt
Refuses Fault main alt = Unit {0}
Refuses NoMemory main alt = Unit {0}

-- the two files are as they were
abbrev pub Same : List ℕ → List ℕ → List ℕ → List ℕ → Type 0
Same main alt main' alt' = (main' ≡ main) × (alt' ≡ alt)

-- what an error of a compaction leaves: the files as they were, where it says why they can't be compacted
abbrev pub Leaves : JournalError → List ℕ → List ℕ → List ℕ → List ℕ → Type 0
Leaves SaysForeign main alt main' alt' = Same main alt main' alt'
Leaves (SaysDamaged at) main alt main' alt' = Same main alt main' alt'
Leaves SaysWorn main alt main' alt' = Same main alt main' alt'
Leaves Fault main alt main' alt' = Unit {0}
Leaves NoMemory main alt main' alt' = Unit {0}

-- From the first syncs on, which were the first calls, whichever file a stop at some moment leaves of the one and
-- whichever of the other, the two hold the records that these files hold, or are damaged as they are.
pub record StaysSame (before now before' now' : ℕ) (main alt : List ℕ) (new new' : ℕ → List ℕ → Type 0) : Type 0 where
  pub first : ℕ
  pub soon : first ≤ before + 1
  pub other_first : ℕ
  pub other_soon : other_first ≤ before' + 1
  pub each : (k j : ℕ) (file file' : List ℕ) → first ≤ k → k ≤ now → other_first ≤ j → j ≤ now' → new k file → new' j file' → HoldAsBefore false main alt file file'

-- The two stay the same so, or nothing but a sync and reads was tried of each.
pub data Survives (before now before' now' : ℕ) (main alt reads reads' : List ℕ) (old new old' new' : ℕ → List ℕ → Type 0) : Type 0 where
  same : StaysSame before now before' now' main alt new new' → Survives before now before' now' main alt reads reads' old new old' new'
  looked : Looked before now main reads old new → Looked before' now' alt reads' old' new' → Survives before now before' now' main alt reads reads' old new old' new'

-- What an end of a compaction says of the two files, before and after, and which text was written: all of it, or a
-- front of it where a write failed. Of a disk that failed and of want of memory it says nothing.
abbrev pub Compacts : FileEnd → List ℕ → List ℕ → List ℕ → List ℕ → Option (List ℕ) → Option (List ℕ) → Type 0
Compacts Written main alt main' alt' old new = (generation count : ℕ) × Renews main alt main' alt' generation count × Appends old new (compact_text generation count)
Compacts WriteFault main alt main' alt' old new = (generation count : ℕ) × Renews main alt main' alt' generation count × AppendsFront old new (compact_text generation count)
Compacts Foreign main alt main' alt' old new = RecoversPair main alt HoldsForeign × Same main alt main' alt'
Compacts (Damaged at) main alt main' alt' old new = RecoversPair main alt (HoldsDamage at) × Same main alt main' alt'
Compacts Worn main alt main' alt' old new = IsWorn main alt × Same main alt main' alt'
Compacts DiskFault main alt main' alt' old new = Unit {0}
Compacts Memory main alt main' alt' old new = Unit {0}
