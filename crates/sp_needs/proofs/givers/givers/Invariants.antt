use Rattle.std.proofs.Common.{◌≡◌, take}
use Rattle.std.specs.List.{flat_map}
use Rattle.sp_needs.specs.Affected.{left_by_part}
use Rattle.sp_needs.proofs.givers.givers.Given as goal

abbrev pub invariant-loop-part : goal.invariant-loop-part
invariant-loop-part l = l.found.items ≡ flat_map (left_by_part l.tree.table.nodes) (take l.part-index l.parts)
