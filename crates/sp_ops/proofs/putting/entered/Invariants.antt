use Rattle.std.proofs.Common.{◌≡◌, take, map}
use Rattle.std.specs.List.{filter}
use Rattle.sp_node.specs.Plan.{number_of}
use Rattle.sp_ops.specs.Changes.{is_entered}
use Rattle.sp_ops.proofs.putting.entered.Given as goal

abbrev pub invariant-loop-part : goal.invariant-loop-part
invariant-loop-part l = l.found.items ≡ map number_of (filter (is_entered l.tree.table.nodes) (take l.part-index l.parts))
