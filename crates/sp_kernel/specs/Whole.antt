-- What contracts see of a kernel over a disk, and what always holds of it.
use Rattle.std.specs.Prelude.{ℕ, List, Bool, IsTrue}
use Rattle.sp_journal.specs.declared.work.Work.{Work}
use Rattle.sp_journal.specs.Standing.{Ledger, Stands}
use Rattle.sp_durable.specs.Standing.{Matches, Counted}
use Rattle.sp_model.specs.State.{Kernel}
use Rattle.sp_model.specs.Soundness.{Sound}

-- the kernel, what its journal is to write, and the disk
pub record Whole (D : Type 0) : Type 0 where
  pub kernel : Kernel
  pub work : Work
  pub disk : D

-- over a disk that reads so and of which a stop leaves these files, the journal stands by a ledger that agrees with the kernel
pub record Agrees (k : Kernel) (work : Work) (reads : List ℕ) (leaves : List ℕ → Type 0) : Type 0 where
  pub ledger : Ledger
  pub stands : Stands reads leaves work ledger
  pub matches : Matches k ledger

-- what always holds: the kernel is sound, the journal's work has its counts, and over a disk that tells its bytes the journal agrees with it
pub record IsWhole (k : Kernel) (work : Work) (tells : Bool) (reads : List ℕ) (leaves : List ℕ → Type 0) : Type 0 where
  pub sound : Sound k
  pub counted : Counted k work
  pub agrees : IsTrue tells → Agrees k work reads leaves
