-- What happens to a kernel over a disk from one moment to a later one.
use Rattle.std.specs.Prelude.{◌≡◌, ◌≢◌, ◌≤◌, ◌⊎◌, ℕ, List, Bool, IsTrue, Option, Some, None}
use Rattle.sp_disk.specs.Faults.{Rose}
use Rattle.sp_disk.specs.Moments.{LeavesOnly}
use Rattle.sp_event.specs.declared.step.Step.{Step}
use Rattle.sp_lines.specs.declared.fault.Fault.{Fault}
use Rattle.sp_lines.specs.declared.fault.Fault.TheVariants.{Disk}
use Rattle.sp_journal.specs.Kinds.{KeepsOneOf}
use Rattle.sp_model.specs.State.{Kernel}
use Rattle.sp_durable.specs.Recovered.{HoldsOrMore}
use Rattle.sp_kernel.specs.Answers.{Histories}
use Rattle.sp_kernel.specs.Whole.{Whole}

-- events lead from one kernel to the other
pub record Leads (k after : Kernel) : Type 0 where
  pub steps : List Step
  pub history : Histories k steps after

-- the file holds what a kernel on the way has committed, without or with its batch in flight
pub record IsLeftBetween (k after : Kernel) (file : List ℕ) : Type 0 where
  pub between : Kernel
  pub before : Leads k between
  pub behind : Leads between after
  pub holds : HoldsOrMore between file

-- no event was done
pub record IsUntouched {D : Type 0} (old new : Whole D) : Type 0 where
  pub kernel : new.kernel ≡ old.kernel
  pub disk : new.disk ≡ old.disk

-- Events led from the one to the other. Over a disk that tells its bytes a stop left, at every moment from before the first event on, what a kernel on the way has committed, in a file that keeps the kind and the header of one that a stop at the start might have left. The kernel was stopped only where the disk's count of faults rose.
pub record Course {D : Type 0} (tells takes : D → Bool) (faults moment : D → ℕ) (images : D → ℕ → List ℕ → Type 0) (old new : Whole D) : Type 0 where
  pub leads : Leads old.kernel new.kernel
  pub crash : IsTrue (tells old.disk) → IsUntouched old new ⊎ LeavesOnly (moment old.disk) (moment new.disk) (images old.disk) (images new.disk) (IsLeftBetween old.kernel new.kernel)
  pub kinds : IsTrue (tells old.disk) → LeavesOnly (moment old.disk) (moment new.disk) (images old.disk) (images new.disk) (KeepsOneOf (images old.disk (moment old.disk)))
  pub later : faults old.disk ≤ faults new.disk
  pub stops : old.kernel.stopped ≡ None → (new.kernel.stopped ≡ None) ⊎ Rose (faults old.disk) (faults new.disk)
  pub same_tells : tells new.disk ≡ tells old.disk
  pub same_takes : takes new.disk ≡ takes old.disk

-- where the fault is one of the disk, the kernel is stopped
abbrev pub StopsAt : Option Fault → Kernel → Type 0
StopsAt (Some Disk) k = k.stopped ≢ None
StopsAt fault k = Unit {0}
