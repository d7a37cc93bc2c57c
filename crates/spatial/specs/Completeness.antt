-- Runs of a script at which nothing outside fails.
use Rattle.std.specs.Prelude.{◌≡◌, ◌⊎◌, ◌<◌, ◌^◌, ℕ, Bool, IsTrue, List, length, Option, Some, None}
use Rattle.sp_journal.specs.declared.types.Recovered.{Recovered}
use Rattle.sp_journal.specs.Recovery.{Holds}
use Rattle.sp_pair.specs.Pairs.{RecoversPair}
use Rattle.sp_files.specs.Fetching.{alt_name}

-- the source tells its bytes, and has fewer than are read at most
abbrev pub IsShort : Option (List ℕ) → Type 0
IsShort None = ⊥
IsShort (Some bytes) = length bytes < 2 ^ 32

-- a run is in memory, or its shelf tells its bytes, and the two files of the journal hold some records
abbrev pub IsAccepted : Option (List ℕ) → Bool → (List ℕ → List ℕ) → Type 0
IsAccepted None tells holds = Unit {0}
IsAccepted (Some name) tells holds = IsTrue tells × (found : Recovered) × RecoversPair (holds name) (holds (alt_name name)) (Holds found)

-- all was read and written, or there was no memory
abbrev pub EndsWell : ℕ → Type 0
EndsWell status = (status ≡ 0) ⊎ (status ≡ 6)
