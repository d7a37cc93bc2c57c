use Rattle.std.proofs.Common.{take}
use Rattle.sp_node.specs.Plan.{planned}
use Rattle.sp_granule.specs.Granules.{granules}
use Rattle.sp_needs.specs.Affected.{IsLost, AreThose}
use Rattle.sp_needs.proofs.lost.lost.Given as goal

abbrev pub invariant-loop-number : goal.invariant-loop-number
invariant-loop-number l = AreThose (IsLost (granules l.tree.table) (granules (planned l.tree.table l.plan))) (take l.number-index l.numbers) l.found.items
