use Rattle.std.specs.List.{sum_by}
use Rattle.sp_node.specs.Look.{look}
use Rattle.sp_node.specs.Table.{level_of}
use Rattle.sp_node.proofs.Weight.{weight}
use Rattle.sp_granule.proofs.Walk.{Walks}
use Rattle.sp_granule.proofs.meeting.granules_meeting_in.Given as goal

abbrev pub invariant-looking : goal.invariant-looking
invariant-looking l = Walks l.overlay l.rect l.pending.items l.found.items

abbrev pub decreases-looking : goal.decreases-looking
decreases-looking l = sum_by (λ w. weight (look l.overlay.nodes) (level_of l.overlay) w.node) l.pending.items
