use Rattle.sp_rect.specs.Plane.{point}
use Rattle.sp_node.specs.Look.{look}
use Rattle.sp_node.specs.Table.{level_of}
use Rattle.sp_granule.proofs.Way.{Leads}
use Rattle.sp_node.proofs.Weight.{weight}
use Rattle.sp_granule.proofs.descent.descend.Given as goal

abbrev pub invariant-down : goal.invariant-down
invariant-down l = Leads l.tree.table (point l.p.x l.p.y) l.number

abbrev pub decreases-down : goal.decreases-down
decreases-down l = weight (look l.tree.table.nodes) (level_of l.tree.table) l.number
