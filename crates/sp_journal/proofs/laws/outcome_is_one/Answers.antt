use Rattle.sp_journal.proofs.Outcomes.{one_outcome}
use Rattle.sp_journal.proofs.laws.outcome_is_one.Goals as goal

pub returns : goal.returns
returns c = one_outcome
