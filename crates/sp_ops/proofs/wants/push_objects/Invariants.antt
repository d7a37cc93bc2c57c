use Rattle.std.proofs.Common.{◌≡◌, ◌++◌, map}
use Rattle.sp_locks.specs.declared.row.Name.TheVariants.{Object}
use Rattle.sp_ops.specs.Wanted.{need_on}
use Rattle.sp_ops.proofs.wants.push_objects.Given as goal

abbrev pub invariant-loop-id : goal.invariant-loop-id
invariant-loop-id l = l.needs.items ++ map (need_on Object l.duration) l.id-iterator ≡ l.fn.needs.items ++ map (need_on Object l.duration) l.modes.entries
