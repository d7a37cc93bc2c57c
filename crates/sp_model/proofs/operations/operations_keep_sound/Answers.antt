use Rattle.sp_model.specs.Removal.{KeepsOthers}
use Rattle.sp_model.proofs.Stepping.{apply_sound}
use Rattle.sp_model.proofs.operations.operations_keep_sound.Goals as goal

pub returns : goal.returns
returns c = λ k s answer after sound. apply_sound KeepsOthers k sound s answer after
