-- The two files by their names, and what stays of a file.
use Rattle.std.specs.Prelude.{◌≡◌, ◌≤◌, ℕ, Bool, if◌then◌else◌}
use Rattle.sp_journal.specs.declared.types.JournalError.{JournalError}
use Rattle.sp_journal.specs.declared.types.JournalError.TheVariants.{Foreign, Damaged, Fault, Memory}
use Rattle.sp_kernel.specs.declared.kernel.StartError.{StartError}
use Rattle.sp_kernel.specs.declared.kernel.StartError.TheVariants.{Foreign as SaysForeign, Damaged as SaysDamaged, DiskFault, Memory as WantsMemory}

-- the first of the two, and the second, by their roles
abbrev pub main_of : {D : Type 0} → Bool → D → D → D
main_of is_alt current other = if is_alt then other else current

abbrev pub alt_of : {D : Type 0} → Bool → D → D → D
alt_of is_alt current other = if is_alt then current else other

-- the current one, by the names
abbrev pub current_of : {D : Type 0} → Bool → D → D → D
current_of is_alt main alt = if is_alt then alt else main

-- a disk as it was, but for its bytes: it tells as before, and its count of faults has not fallen
pub record Follows {D : Type 0} (tells : D → Bool) (faults : D → ℕ) (old new : D) : Type 0 where
  pub same_tells : tells new ≡ tells old
  pub later : faults old ≤ faults new

-- an error of a kernel as one of its journal
abbrev pub told_as : StartError → JournalError
told_as SaysForeign = Foreign
told_as (SaysDamaged at) = Damaged at
told_as DiskFault = Fault
told_as WantsMemory = Memory
