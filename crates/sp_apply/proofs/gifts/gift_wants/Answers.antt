use Rattle.std.proofs.Common.{◌↔◌, ◌⊎◌, List, ◌∙◌, subst}
use Rattle.std.proofs.lemmas.List.{take_all}
use Rattle.sp_locks.specs.declared.mode.Mode.{Mode}
use Rattle.sp_locks.specs.declared.row.Name.{Name}
use Rattle.sp_node.specs.declared.plan.Part.{Part}
use Rattle.sp_node.specs.Among.{Among}
use Rattle.sp_node.specs.Plan.{planned}
use Rattle.sp_node.specs.Table.{Table}
use Rattle.sp_granule.specs.Granules.{granules}
use Rattle.sp_ops.specs.Wanted.{IsWanted}
use Rattle.sp_apply.specs.Given.{PartWant}
use Rattle.sp_apply.proofs.PartWants.{one_part_more, none_yet}
use Rattle.sp_apply.proofs.gifts.gift_wants.Goals as goal

pub parts-init : goal.parts-init
parts-init c = none_yet c.args.tree.now.table.nodes (granules (planned c.args.tree.now.table c.args.plan.now)) c.args.seat.now.txn.number c.args.seat.now.txn.searches c.new-wants.result.items c.new-wants.ensures.items

pub parts-preserved : goal.parts-preserved
parts-preserved c =
    one_part_more c.args.tree.now.table.nodes (granules (planned c.args.tree.now.table c.args.plan.now)) c.args.seat.now.txn.number c.args.seat.now.txn.searches c.as_slice-part-items.result.now c.parts.part-index c.part-item.result c.parts.wants.items c.push_wants.new.wants.items
    c.parts-test.true c.part-item.is c.parts.invariant
    (subst (λ (t : Table). (name : Name) (mode : Mode) → IsWanted c.push_wants.new.wants.items name mode ↔ (IsWanted c.parts.wants.items name mode ⊎ PartWant c.args.tree.now.table.nodes (granules t) c.args.seat.now.txn.number c.args.seat.now.txn.searches c.part-item.result name mode)) c.planned-after.ensures c.in_ok-push_wants.ensures)

pub returns : goal.returns
returns c = subst (λ (ps : List Part). (name : Name) (mode : Mode) → IsWanted c.parts.wants.items name mode ↔ ((p : Part) × Among p ps × PartWant c.args.tree.now.table.nodes (granules (planned c.args.tree.now.table c.args.plan.now)) c.args.seat.now.txn.number c.args.seat.now.txn.searches p name mode))
    (take_all c.parts.part-index c.as_slice-part-items.result.now c.parts-test.false ∙ c.as_slice-part-items.ensures) c.parts.invariant
