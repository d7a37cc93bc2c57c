-- A kernel that was started over a disk, and why one was not.
use Rattle.std.specs.Prelude.{◌≡◌, ℕ, List}
use Rattle.sp_node.specs.declared.node.Shape.{Shape}
use Rattle.sp_journal.specs.declared.types.Recovered.{Recovered}
use Rattle.sp_journal.specs.Recovery.{Holds, Foreign, Damaged, Recovers}
use Rattle.sp_journal.specs.declared.types.JournalError.{JournalError}
use Rattle.sp_journal.specs.declared.types.JournalError.TheVariants.{Foreign as JournalForeign, Damaged as JournalDamaged, Worn, Fault, Memory as JournalMemory}
use Rattle.sp_model.specs.State.{Kernel}
use Rattle.sp_model.specs.Opening.{IsOpened}
use Rattle.sp_kernel.specs.declared.kernel.StartError.{StartError}
use Rattle.sp_kernel.specs.declared.kernel.StartError.TheVariants.{Foreign as SaysForeign, Damaged as SaysDamaged, DiskFault, Memory}

-- the kernel that opening gives over the records that the file holds
pub record IsStartedOver (was : List ℕ) (shape : Shape) (k : Kernel) : Type 0 where
  pub found : Recovered
  pub recovered : Recovers was (Holds found)
  pub opened : IsOpened shape found.records k

-- what an error says of the file, which it leaves as it was
abbrev pub RefusedOver : StartError → List ℕ → List ℕ → Type 0
RefusedOver SaysForeign was reads = Recovers was Foreign × (reads ≡ was)
RefusedOver (SaysDamaged at) was reads = Recovers was (Damaged at) × (reads ≡ was)
RefusedOver DiskFault was reads = Unit {0}
RefusedOver Memory was reads = Unit {0}

-- an error of the journal as one of the kernel; an opening tells of no worn journal
abbrev pub told_as : JournalError → StartError
told_as JournalForeign = SaysForeign
told_as (JournalDamaged at) = SaysDamaged at
told_as Fault = DiskFault
told_as Worn = Memory
told_as JournalMemory = Memory
