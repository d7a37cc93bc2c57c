use Rattle.sp_model.specs.Removal.{KeepsOthers}
use Rattle.sp_model.proofs.Stepping.{clean_sound}
use Rattle.sp_model.proofs.ending.removals_keep_sound.Goals as goal

pub returns : goal.returns
returns c = λ k answer after sound. clean_sound KeepsOthers k sound answer after (λ t number t' valid ascending few keeps. keeps)
