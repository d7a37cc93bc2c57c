use Rattle.std.proofs.Common.{◌≡◌, take}
use Rattle.std.specs.List.{list_any}
use Rattle.sp_rect.specs.Plane.{Point}
use Rattle.sp_region.specs.Region.{covered}
use Rattle.sp_granule.specs.Granules.{granules}
use Rattle.sp_needs.specs.Affected.{leaf_has}
use Rattle.sp_needs.proofs.gained.leaves.Given as goal

abbrev pub invariant-loop-number : goal.invariant-loop-number
invariant-loop-number l = (p : Point) → covered l.rects p ≡ list_any (leaf_has (granules l.tree.table) p) (take l.number-index l.numbers)
