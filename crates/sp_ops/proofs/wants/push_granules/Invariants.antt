use Rattle.std.proofs.Common.{◌≡◌, ◌++◌, map}
use Rattle.sp_locks.specs.declared.row.Name.TheVariants.{Granule}
use Rattle.sp_ops.specs.Wanted.{need_on}
use Rattle.sp_ops.proofs.wants.push_granules.Given as goal

abbrev pub invariant-loop-number : goal.invariant-loop-number
invariant-loop-number l = l.needs.items ++ map (need_on Granule l.duration) l.number-iterator ≡ l.fn.needs.items ++ map (need_on Granule l.duration) l.modes.entries
