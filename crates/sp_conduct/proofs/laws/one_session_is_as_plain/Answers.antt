use Rattle.sp_conduct.proofs.Alone.{as_plain}
use Rattle.sp_conduct.proofs.laws.one_session_is_as_plain.Goals as goal

pub returns : goal.returns
returns c = λ records items s all mine. as_plain records s items all mine
