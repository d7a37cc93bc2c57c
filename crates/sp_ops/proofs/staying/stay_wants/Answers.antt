use Rattle.std.proofs.Common.{ℕ, refl, sym, subst}
use Rattle.std.proofs.lemmas.Result.{IfOk-weaker}
use Rattle.sp_rect.specs.declared.operation.Op.{Op}
use Rattle.sp_node.specs.Table.{entries_of}
use Rattle.sp_granule.specs.Granules.{granules}
use Rattle.sp_protection.specs.Needs.{StayWant, MarksId}
use Rattle.sp_ops.specs.Wanted.{AreWants}
use Rattle.sp_ops.proofs.Reasons.{put_wants, get_wants}
use Rattle.sp_ops.proofs.staying.stay_wants.Goals as goal

pub returns-in-Put : goal.returns-in-Put
returns-in-Put c =
    subst (λ (op : Op). AreWants (StayWant (granules c.args.tree.now.table) (entries_of c.args.tree.now.table) c.args.txn op) c.new.result.items) (sym c.in-Put.is)
    (rw c.new.ensures.items (put_wants c.args.tree.now.table c.args.txn c.in-Put.field-0))

pub returns-in-Get : goal.returns-in-Get
returns-in-Get c =
    subst (λ (op : Op). AreWants (StayWant (granules c.args.tree.now.table) (entries_of c.args.tree.now.table) c.args.txn op) c.new-in-Get.result.items) (sym c.in-Get.is)
    (rw c.new-in-Get.ensures.items (get_wants c.args.tree.now.table c.args.txn c.in-Get.field-0))

pub returns-in-Drop : goal.returns-in-Drop
returns-in-Drop c =
    IfOk-weaker c.entry_wants.result (λ ws. (id : ℕ) → MarksId c.args.op.now id → AreWants (StayWant (granules c.args.tree.now.table) (entries_of c.args.tree.now.table) c.args.txn c.args.op.now) ws.items) (λ ws. AreWants (StayWant (granules c.args.tree.now.table) (entries_of c.args.tree.now.table) c.args.txn c.args.op.now) ws.items)
    (λ ws h. h c.in-Drop.field-0 (subst (λ (op : Op). MarksId op c.in-Drop.field-0) (sym c.in-Drop.is) refl)) c.entry_wants.ensures

pub returns-in-Set : goal.returns-in-Set
returns-in-Set c =
    IfOk-weaker c.entry_wants-in-Set.result (λ ws. (id : ℕ) → MarksId c.args.op.now id → AreWants (StayWant (granules c.args.tree.now.table) (entries_of c.args.tree.now.table) c.args.txn c.args.op.now) ws.items) (λ ws. AreWants (StayWant (granules c.args.tree.now.table) (entries_of c.args.tree.now.table) c.args.txn c.args.op.now) ws.items)
    (λ ws h. h c.in-Set.field-0 (subst (λ (op : Op). MarksId op c.in-Set.field-0) (sym c.in-Set.is) refl)) c.entry_wants-in-Set.ensures
