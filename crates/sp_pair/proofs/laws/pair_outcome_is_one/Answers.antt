use Rattle.sp_pair.proofs.Roles.{one_pair}
use Rattle.sp_pair.proofs.laws.pair_outcome_is_one.Goals as goal

pub returns : goal.returns
returns c = one_pair
