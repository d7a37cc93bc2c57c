use Rattle.sp_model.specs.Removal.{KeepsOthers}
use Rattle.sp_model.proofs.Stepping.{name_sound, ask_sound}
use Rattle.sp_model.proofs.requests.requests_keep_sound.Goals as goal

pub returns-clause-name : goal.returns-clause-name
returns-clause-name c = λ k s answer after sound. name_sound KeepsOthers k sound s answer after

pub returns-clause-ask : goal.returns-clause-ask
returns-clause-ask c = λ k s answer after sound. ask_sound KeepsOthers k sound s answer after
