use Rattle.std.proofs.Common.{ℕ, ◌↔◌, take}
use Rattle.sp_node.specs.Among.{Among}
use Rattle.sp_granule.specs.Granules.{granules}
use Rattle.sp_needs.specs.Affected.{HasLeftOfAny}
use Rattle.sp_needs.proofs.reached.reached.Given as goal

abbrev pub invariant-loop-rect : goal.invariant-loop-rect
invariant-loop-rect l = (n : ℕ) → Among n l.found.items ↔ HasLeftOfAny (granules l.tree.table) l.sources (take l.rect-index l.rects) n
