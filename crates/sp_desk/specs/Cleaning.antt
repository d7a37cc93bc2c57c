-- The dead entries that are tried after a command.
use Rattle.std.specs.Prelude.{◌≡◌, ℕ, ◌+◌, Option, Some, None}
use Rattle.sp_event.specs.declared.event.Event.TheVariants.{Clean}
use Rattle.sp_event.specs.declared.answer.Answer.{Answer}
use Rattle.sp_event.specs.declared.answer.Answer.TheVariants.{Memory, Stopped, DiskFault}
use Rattle.sp_lines.specs.declared.fault.Fault.{Fault}
use Rattle.sp_lines.specs.declared.fault.Fault.TheVariants.{Memory as WantsMemory, Disk}
use Rattle.sp_model.specs.State.{Kernel}
use Rattle.sp_kernel.specs.Answers.{Answers}

-- the fault that an answer is, which ends a run and is not told
abbrev pub fault_in : Answer → Option Fault
fault_in Memory = Some WantsMemory
fault_in (Stopped offset) = Some Disk
fault_in DiskFault = Some Disk
fault_in answer = None

-- the fault by which a run ends after that answer: one that no run gives is told as want of memory
abbrev pub fault_told : Option Fault → Fault
fault_told (Some fault) = fault
fault_told None = WantsMemory

-- so many dead entries were tried
pub data Cleans (k : Kernel) : ℕ → Kernel → Type 0 where
  Stays : Cleans k 0 k
  Goes : {count : ℕ} {m : Kernel} → Cleans k count m → (answer : Answer) (n : Kernel) → Answers m Clean answer n → fault_in answer ≡ None → Cleans k (count + 1) n
