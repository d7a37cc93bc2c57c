use Rattle.std.proofs.Common.{◌≡◌, map, take}
use Rattle.sp_needs.specs.Affected.{need_on}
use Rattle.sp_needs.proofs.needs.needs_on.Given as goal

abbrev pub invariant-loop-number : goal.invariant-loop-number
invariant-loop-number l = l.needs.items ≡ map (need_on l.givers) (take l.number-index l.numbers)
