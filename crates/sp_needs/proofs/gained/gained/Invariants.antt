use Rattle.std.proofs.Common.{◌≡◌, take}
use Rattle.std.specs.List.{list_any}
use Rattle.sp_rect.specs.Plane.{Point}
use Rattle.sp_region.specs.Region.{covered}
use Rattle.sp_node.specs.Plan.{planned}
use Rattle.sp_granule.specs.Granules.{granules}
use Rattle.sp_needs.specs.Affected.{gains}
use Rattle.sp_needs.proofs.gained.gained.Given as goal

abbrev pub invariant-loop-number : goal.invariant-loop-number
invariant-loop-number l = (p : Point) → covered l.rects p ≡ list_any (gains (granules l.tree.table) (granules (planned l.tree.table l.plan)) p) (take l.number-index l.numbers)
