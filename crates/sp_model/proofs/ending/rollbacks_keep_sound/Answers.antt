use Rattle.sp_model.specs.Removal.{KeepsOthers}
use Rattle.sp_model.proofs.Stepping.{rollback_sound}
use Rattle.sp_model.proofs.ending.rollbacks_keep_sound.Goals as goal

pub returns : goal.returns
returns c = λ k s answer after sound. rollback_sound KeepsOthers k sound s answer after
