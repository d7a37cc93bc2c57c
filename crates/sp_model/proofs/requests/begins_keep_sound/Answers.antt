use Rattle.sp_model.specs.Removal.{KeepsOthers}
use Rattle.sp_model.proofs.Stepping.{begin_sound}
use Rattle.sp_model.proofs.requests.begins_keep_sound.Goals as goal

pub returns : goal.returns
returns c = λ k s answer after sound. begin_sound KeepsOthers k sound s answer after
