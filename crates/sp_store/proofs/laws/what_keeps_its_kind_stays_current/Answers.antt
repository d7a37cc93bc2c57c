use Rattle.sp_store.proofs.Keeping.{kept_recovers}
use Rattle.sp_store.proofs.laws.what_keeps_its_kind_stays_current.Goals as goal

pub returns : goal.returns
returns c = kept_recovers
