use Rattle.sp_node.specs.Look.{look}
use Rattle.sp_node.proofs.Weight.{weight}
use Rattle.sp_grow.specs.Overlay.{table_of}
use Rattle.sp_grow.proofs.grown.+grow_below.Given as goal

abbrev pub decreases-grow_below : goal.decreases-grow_below
decreases-grow_below l = weight (look (table_of l.base.now).nodes) (table_of l.base.now).next l.number
