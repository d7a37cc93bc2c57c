-- The commit needs of an operation: those of an operation that leaves the tree as it is, or of a put by its plan.
use Rattle.std.specs.Prelude.{ℕ, List, Option, Some, None}
use Rattle.sp_rect.specs.Plane.{Rectangle}
use Rattle.sp_rect.specs.declared.operation.Op.{Op}
use Rattle.sp_locks.specs.declared.row.Duration.TheVariants.{Commit}
use Rattle.sp_locks.specs.declared.needs.Need.{Need}
use Rattle.sp_node.specs.declared.plan.Plan.{Plan}
use Rattle.sp_node.specs.Plan.{planned}
use Rattle.sp_node.specs.Table.{Table, entries_of}
use Rattle.sp_granule.specs.Granules.{granules}
use Rattle.sp_protection.specs.Needs.{StayWant, PutWant, AreNeedsOf}

abbrev pub AreCommitNeeds : Table → Option Plan → Op → ℕ → List Rectangle → List Need → Type 0
AreCommitNeeds t None op txn searches needs = AreNeedsOf (StayWant (granules t) (entries_of t) txn op) Commit needs
AreCommitNeeds t (Some plan) op txn searches needs = AreNeedsOf (PutWant (granules t) (granules (planned t plan)) searches) Commit needs
