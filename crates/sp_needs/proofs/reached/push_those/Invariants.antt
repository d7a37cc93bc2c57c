use Rattle.std.proofs.Common.{take}
use Rattle.sp_granule.specs.Granules.{granules}
use Rattle.sp_needs.specs.Affected.{HasLeftOf, AreAdded}
use Rattle.sp_needs.proofs.reached.push_those.Given as goal

abbrev pub invariant-loop-number : goal.invariant-loop-number
invariant-loop-number l = AreAdded (HasLeftOf (granules l.tree.table) l.sources l.rect) (take l.number-index l.numbers) l.fn.found.items l.found.items
