-- One file is written anew from what the other holds.
use Rattle.std.specs.Prelude.{◌≡◌, ◌⊎◌, ◌+◌, ◌-◌, ◌^◌, ◌≤◌, ◌↔◌, max, ℕ, Bool, if◌then◌else◌, List, [], ◌∷◌, ◌++◌, length}
use Rattle.sp_disk.specs.Files.{Shortened}
use Rattle.sp_rect.specs.declared.record.Record.{Record}
use Rattle.sp_journal.specs.declared.types.JournalError.{JournalError}
use Rattle.sp_journal.specs.declared.types.JournalError.TheVariants.{Foreign as SaysForeign, Damaged as SaysDamaged, Worn, Fault, Memory}
use Rattle.sp_journal.specs.declared.types.Recovered.{Recovered}
use Rattle.sp_journal.specs.Format.{header_bytes, entry_bytes, checkpoint_bytes, IsCheckpoint}
use Rattle.sp_journal.specs.Recovery.{Outcome, Damaged, Holds, NeedsMaking}
use Rattle.sp_pair.specs.Pairs.{IsChosen, RecoversPair}

-- the generation of a file that is written from one of that generation
abbrev pub next_generation : ℕ → ℕ
next_generation generation = max 1 generation + 1

-- a header of that generation and a closed gate
abbrev pub begun : ℕ → List ℕ
begun generation = header_bytes 2 generation ++ 0 ∷ []

-- the file of that generation whose one entry is the checkpoint of these records
abbrev pub compacted : ℕ → List Record → List ℕ
compacted generation records = header_bytes 2 generation ++ (entry_bytes (checkpoint_bytes records) ++ 0 ∷ [])

-- What a stop leaves until the header stands: what a cut leaves of the old file, or at most 17 bytes.
abbrev pub IsCleared : List ℕ → List ℕ → Type 0
IsCleared was file = Shortened 0 was file ⊎ (length file ≤ 17)

-- What a stop leaves of a file that is written: one that holds nothing yet, or all of it.
abbrev pub IsFilled : List ℕ → List ℕ → Type 0
IsFilled whole file = NeedsMaking file ⊎ (file ≡ whole)

-- What a stop leaves of the other file while it is written anew.
pub data MayLeave (was : List ℕ) (generation : ℕ) (records : List Record) (file : List ℕ) : Type 0 where
  cleared : IsCleared was file → MayLeave was generation records file
  unfilled : NeedsMaking file → MayLeave was generation records file
  whole : file ≡ compacted generation records → IsCheckpoint records → MayLeave was generation records file

-- the first of the two files, and the second, by their roles
abbrev pub first_of : Bool → List ℕ → List ℕ → List ℕ
first_of is_alt current other = if is_alt then other else current

abbrev pub second_of : Bool → List ℕ → List ℕ → List ℕ
second_of is_alt current other = if is_alt then current else other

-- What the two files are recovered to, by their roles.
abbrev pub RecoversRoles : Bool → List ℕ → List ℕ → Outcome → Type 0
RecoversRoles is_alt current other outcome = RecoversPair (first_of is_alt current other) (second_of is_alt current other) outcome

-- The two files as they were chosen, with nothing pending on either. Whole entries may have been added to the current
-- one: where that was new, its generation is 1 in place of 0.
pub record IsAtRest (is_alt : Bool) (generation : ℕ) (current other : List ℕ) (leaves leaves' : List ℕ → Type 0) : Type 0 where
  pub version : ℕ
  pub own : ℕ
  pub chosen : IsChosen (first_of is_alt current other) (second_of is_alt current other) is_alt version own
  pub same : max 1 own ≡ max 1 generation
  pub current_only : (file : List ℕ) → leaves file → file ≡ current
  pub other_only : (file : List ℕ) → leaves' file → file ≡ other

-- Two files hold the records that those held, or are damaged as those were.
pub record HoldAsBefore (is_alt : Bool) (current other current' other' : List ℕ) : Type 0 where
  pub records : (found : Recovered) → RecoversRoles is_alt current other (Holds found) → (after : Recovered) × RecoversRoles is_alt current' other' (Holds after) × (after.records ≡ found.records)
  pub damage : (at : ℕ) → RecoversRoles is_alt current other (Damaged at) → RecoversRoles is_alt current' other' (Damaged at)

-- Whichever file a stop at some moment leaves of the one, and whichever of the other, the two hold the records that
-- they held at the first of these moments. What was before is kept.
pub record Keeps (is_alt : Bool) (current other : List ℕ) (before now before' now' : ℕ) (old new old' new' : ℕ → List ℕ → Type 0) : Type 0 where
  pub each : (k j : ℕ) (file file' : List ℕ) → before ≤ k → k ≤ now → before' ≤ j → j ≤ now' → new k file → new' j file' → HoldAsBefore is_alt current other file file'
  pub later : before ≤ now
  pub other_later : before' ≤ now'
  pub past : (k : ℕ) (file : List ℕ) → k ≤ before → new k file ↔ old k file
  pub other_past : (k : ℕ) (file : List ℕ) → k ≤ before' → new' k file ↔ old' k file

-- The other file has become the one of the next generation with one entry, the checkpoint of so many records, which are
-- those that the two files held.
pub record IsCompacted (is_alt : Bool) (generation count : ℕ) (current other reads : List ℕ) : Type 0 where
  pub found : Recovered
  pub held : RecoversRoles is_alt current other (Holds found)
  pub valid : IsCheckpoint found.records
  pub count_is : count ≡ length found.records
  pub file : reads ≡ compacted (next_generation generation) found.records

-- What an error of a compaction says of the two files and the generation.
abbrev pub RefusedRoles : JournalError → Bool → ℕ → List ℕ → List ℕ → Type 0
RefusedRoles SaysForeign is_alt generation current other = ⊥
RefusedRoles (SaysDamaged at) is_alt generation current other = RecoversRoles is_alt current other (Damaged at)
RefusedRoles Worn is_alt generation current other = (generation ≡ 2 ^ 63 - 1) × ((found : Recovered) × RecoversRoles is_alt current other (Holds found))
RefusedRoles Fault is_alt generation current other = Unit {0}
RefusedRoles Memory is_alt generation current other = Unit {0}
