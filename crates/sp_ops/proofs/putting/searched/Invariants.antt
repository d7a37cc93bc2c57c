use Rattle.std.proofs.Common.{◌↔◌, ℕ, take}
use Rattle.sp_node.specs.Among.{Among}
use Rattle.sp_granule.specs.Granules.{granules}
use Rattle.sp_ops.specs.Changes.{IsSearched}
use Rattle.sp_ops.proofs.putting.searched.Given as goal

abbrev pub invariant-loop-rect : goal.invariant-loop-rect
invariant-loop-rect l = (n : ℕ) → Among n l.found.items ↔ IsSearched l.tree.table.nodes (granules l.after) (take l.rect-index l.searches) n
