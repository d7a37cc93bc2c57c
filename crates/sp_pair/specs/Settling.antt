-- What a stop leaves of a disk that is settled and then only read.
use Rattle.std.specs.Prelude.{◌≡◌, ◌≤◌, ◌+◌, ◌↔◌, ℕ, List}
use Rattle.sp_disk.specs.Moments.{LeavesOnly}
use Rattle.sp_journal.specs.Recovery.{Outcome}
use Rattle.sp_pair.specs.Pairs.{RecoversPair}

-- From the first sync on, which was the first call and answered Ok, a stop leaves what a read gives, and that stays.
pub record IsSettled (before now : ℕ) (reads reads' : List ℕ) (old new : ℕ → List ℕ → Type 0) : Type 0 where
  pub bytes : reads' ≡ reads
  pub first : ℕ
  pub low : before ≤ first
  pub soon : first ≤ before + 1
  pub now_low : first ≤ now
  pub each : (k : ℕ) (file : List ℕ) → first ≤ k → k ≤ now → new k file → file ≡ reads
  pub past : (k : ℕ) (file : List ℕ) → k ≤ before → new k file ↔ old k file

-- At most that sync was tried, and a stop leaves what it might have left before.
pub record IsUntouched (before now : ℕ) (reads reads' : List ℕ) (old new : ℕ → List ℕ → Type 0) : Type 0 where
  pub bytes : reads' ≡ reads
  pub soon : now ≤ before + 1
  pub stop : LeavesOnly before now old new (old before)

-- The one or the other.
pub data Looked (before now : ℕ) (reads reads' : List ℕ) (old new : ℕ → List ℕ → Type 0) : Type 0 where
  settled : IsSettled before now reads reads' old new → Looked before now reads reads' old new
  untouched : IsUntouched before now reads reads' old new → Looked before now reads reads' old new

-- From the first syncs on, which were the first calls, whichever file a stop at some moment leaves of the one and
-- whichever of the other, the two are recovered to what the files are.
pub record SinceSynced (before now before' now' : ℕ) (main alt : List ℕ) (new new' : ℕ → List ℕ → Type 0) : Type 0 where
  pub first : ℕ
  pub soon : first ≤ before + 1
  pub other_first : ℕ
  pub other_soon : other_first ≤ before' + 1
  pub each : (k j : ℕ) (file file' : List ℕ) (outcome : Outcome) → first ≤ k → k ≤ now → other_first ≤ j → j ≤ now' → new k file → new' j file' → RecoversPair main alt outcome → RecoversPair file file' outcome
