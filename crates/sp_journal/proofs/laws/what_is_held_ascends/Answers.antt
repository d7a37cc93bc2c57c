use Rattle.sp_journal.proofs.Ordering.{held_ordered}
use Rattle.sp_journal.proofs.laws.what_is_held_ascends.Goals as goal

pub returns : goal.returns
returns c = held_ordered
