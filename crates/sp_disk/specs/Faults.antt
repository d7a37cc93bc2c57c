-- Counts of faults, and the causes of errors.
use Rattle.std.specs.Prelude.{ℕ, ◌+◌, ◌-◌, ◌^◌, ◌≤◌, min, Bool, IsTrue, Result, IsErrOf}
use Rattle.sp_disk.specs.declared.disk.DiskError.{DiskError}
use Rattle.sp_disk.specs.declared.disk.DiskError.TheVariants.{Fault, Memory}

-- The count has risen, or it stands at the end of 64 bits.
abbrev pub Rose : ℕ → ℕ → Type 0
Rose before now = min (before + 1) (2 ^ 64 - 1) ≤ now

-- The count never falls. A fault is answered only where it rose, and want of memory only by a disk that
-- takes memory.
pub record HasCause {T : Type 0} (takes_memory : Bool) (before now : ℕ) (result : Result T DiskError) : Type 0 where
  pub later : before ≤ now
  pub fault : IsErrOf result Fault → Rose before now
  pub memory : IsErrOf result Memory → IsTrue takes_memory
