use Rattle.sp_model.specs.Removal.{KeepsOthers}
use Rattle.sp_model.proofs.Stepping.{flush_sound}
use Rattle.sp_model.proofs.ending.flushes_keep_sound.Goals as goal

pub returns : goal.returns
returns c = λ k answer after sound. flush_sound KeepsOthers k sound answer after
