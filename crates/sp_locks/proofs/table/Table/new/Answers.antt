use Rattle.std.proofs.Common.{sym, subst}
use Rattle.sp_locks.specs.Soundness.{IsSound}
use Rattle.sp_locks.proofs.Keeping.{empty-sound, empty-waits}
use Rattle.sp_locks.proofs.table.Table.new.Goals as goal

pub invariant_of-result : goal.invariant_of-result
invariant_of-result c = (subst IsSound (sym c.new.ensures) empty-sound, empty-waits _ _ c.new-2.ensures.empty c.new.ensures)
