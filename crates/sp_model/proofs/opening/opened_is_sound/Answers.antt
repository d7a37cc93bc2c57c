use Rattle.sp_model.proofs.Stepping.{opened_whole}
use Rattle.sp_model.proofs.opening.opened_is_sound.Goals as goal

pub returns : goal.returns
returns c = opened_whole
