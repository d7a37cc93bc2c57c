use Rattle.std.proofs.Common.{ap, sym, ◌∙◌}
use Rattle.sp_rect.specs.declared.operation.Op.{Op}
use Rattle.sp_rect.specs.declared.operation.Op.TheVariants.{Get}
use Rattle.sp_rect.specs.Store.{reply_to}
use Rattle.sp_ops.proofs.replies.reply.Goals as goal

pub returns-in_ok-records_by_id-in-Get : goal.returns-in_ok-records_by_id-in-Get
returns-in_ok-records_by_id-in-Get c = λ found at.
    c.got.ensures c.in-Get.field-0 ∙ ap (reply_to (Get c.in-Get.field-0)) (c.in_ok-records_by_id-in-Get.ensures found at) ∙ ap (λ (op : Op). reply_to op found) (sym c.in-Get.is)
