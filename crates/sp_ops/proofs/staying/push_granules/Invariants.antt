use Rattle.std.proofs.Common.{◌≡◌, ◌++◌, take, map}
use Rattle.sp_ops.specs.Wanted.{on_granule}
use Rattle.sp_ops.proofs.staying.push_granules.Given as goal

abbrev pub invariant-loop-number : goal.invariant-loop-number
invariant-loop-number l = l.wants.items ≡ l.fn.wants.items ++ map (on_granule l.mode) (take l.number-index l.numbers)
