use Rattle.sp_plain.proofs.Keeping.{ordered_after}
use Rattle.sp_plain.proofs.laws.operations_keep_order.Goals as goal

pub returns : goal.returns
returns c = ordered_after
