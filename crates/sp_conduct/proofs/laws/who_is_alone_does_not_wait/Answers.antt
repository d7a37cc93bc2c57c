use Rattle.sp_conduct.proofs.Alone.{at_once}
use Rattle.sp_conduct.proofs.laws.who_is_alone_does_not_wait.Goals as goal

pub returns : goal.returns
returns c = λ sc s op answer alone fits. at_once sc s op answer alone fits
