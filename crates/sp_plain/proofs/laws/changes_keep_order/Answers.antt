use Rattle.sp_plain.proofs.Leading.{ordered_taken}
use Rattle.sp_plain.proofs.laws.changes_keep_order.Goals as goal

pub returns : goal.returns
returns c = ordered_taken
