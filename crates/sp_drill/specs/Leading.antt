-- From one kernel to another by events, and what a stop on the way leaves.
use Rattle.std.specs.Prelude.{◌≡◌, ◌⊎◌, ◌≤◌, ℕ, Bool, IsTrue, List}
use Rattle.sp_disk.specs.Moments.{LeavesOnly}
use Rattle.sp_event.specs.declared.step.Step.{Step}
use Rattle.sp_journal.specs.Kinds.{KeepsOneOf}
use Rattle.sp_model.specs.State.{Kernel}
use Rattle.sp_durable.specs.Recovered.{HoldsOrMore}
use Rattle.sp_kernel.specs.Answers.{Histories}
use Rattle.sp_kernel.specs.Whole.{Whole}

-- some events with their answers lead from the one kernel to the other
abbrev pub LeadsTo : Kernel → Kernel → Type 0
LeadsTo k n = (steps : List Step) × Histories k steps n

-- The file is recovered as some kernel on the way has it: to the commits that have their places there, or to these and the whole batch in flight.
pub record IsLeftBetween (k n : Kernel) (file : List ℕ) : Type 0 where
  pub kernel : Kernel
  pub before : LeadsTo k kernel
  pub after : LeadsTo kernel n
  pub holds : HoldsOrMore kernel file

-- One kernel over a disk became another by events. Unless nothing was done, each moment of it leaves what some kernel on the way has; and a file that keeps the kind and the header of one that a stop at the start might have left.
pub record Leads {D : Type 0} (tells takes : D → Bool) (faults moment : D → ℕ) (images : D → ℕ → List ℕ → Type 0) (w v : Whole D) : Type 0 where
  pub goes : LeadsTo w.kernel v.kernel
  pub leaves : IsTrue (tells w.disk) → (v ≡ w) ⊎ LeavesOnly (moment w.disk) (moment v.disk) (images w.disk) (images v.disk) (IsLeftBetween w.kernel v.kernel)
  pub kinds : IsTrue (tells w.disk) → LeavesOnly (moment w.disk) (moment v.disk) (images w.disk) (images v.disk) (KeepsOneOf (images w.disk (moment w.disk)))
  pub later : faults w.disk ≤ faults v.disk
  pub same_tells : tells v.disk ≡ tells w.disk
  pub same_takes : takes v.disk ≡ takes w.disk
