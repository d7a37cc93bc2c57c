-- Calls of a disk that write nothing.
use Rattle.std.specs.Prelude.{◌≡◌, ◌↔◌, ℕ, List}
use Rattle.sp_disk.specs.Moments.{LeavesOnly}

-- What a read gives is as it was, and a stop at any moment of the calls leaves what it might have left before.
pub record OnlyReads (before now : ℕ) (reads reads' : List ℕ) (old new : ℕ → List ℕ → Type 0) : Type 0 where
  pub bytes : reads' ≡ reads
  pub stop : LeavesOnly before now old new (old before)
  pub same : (file : List ℕ) → new now file ↔ old before file
