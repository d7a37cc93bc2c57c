use Rattle.sp_durable.proofs.Counting.{standing_counts}
use Rattle.sp_durable.proofs.counts.standing_counts_agree.Goals as goal

pub returns : goal.returns
returns g c = λ disk work ledger k stands same. standing_counts _ _ work ledger k stands same
