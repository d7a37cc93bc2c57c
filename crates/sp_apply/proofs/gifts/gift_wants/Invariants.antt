use Rattle.std.proofs.Common.{◌↔◌, take}
use Rattle.sp_locks.specs.declared.mode.Mode.{Mode}
use Rattle.sp_locks.specs.declared.row.Name.{Name}
use Rattle.sp_node.specs.declared.plan.Part.{Part}
use Rattle.sp_node.specs.Among.{Among}
use Rattle.sp_node.specs.Plan.{planned}
use Rattle.sp_granule.specs.Granules.{granules}
use Rattle.sp_ops.specs.Wanted.{IsWanted}
use Rattle.sp_apply.specs.Given.{PartWant}
use Rattle.sp_apply.proofs.gifts.gift_wants.Given as goal

abbrev pub invariant-parts : goal.invariant-parts
invariant-parts l = (name : Name) (mode : Mode) → IsWanted l.wants.items name mode
    ↔ ((part : Part) × Among part (take l.part-index l.part-items) × PartWant l.tree.table.nodes (granules (planned l.tree.table l.plan)) l.seat.txn.number l.seat.txn.searches part name mode)
