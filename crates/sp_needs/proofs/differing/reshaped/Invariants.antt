use Rattle.std.proofs.Common.{take, map}
use Rattle.sp_node.specs.Plan.{number_of, planned}
use Rattle.sp_granule.specs.Granules.{granules}
use Rattle.sp_needs.specs.Affected.{AreKeptBut}
use Rattle.sp_needs.proofs.differing.reshaped.Given as goal

abbrev pub invariant-loop-part : goal.invariant-loop-part
invariant-loop-part l = AreKeptBut (granules l.tree.table) (granules (planned l.tree.table l.plan)) (map number_of (take l.part-index l.part-items)) l.numbers.items
