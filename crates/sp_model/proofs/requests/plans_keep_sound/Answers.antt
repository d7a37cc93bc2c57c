use Rattle.sp_model.specs.Removal.{KeepsOthers}
use Rattle.sp_model.proofs.Stepping.{start_sound, plan_sound}
use Rattle.sp_model.proofs.requests.plans_keep_sound.Goals as goal

pub returns-clause-start : goal.returns-clause-start
returns-clause-start c = λ k s op answer after sound. start_sound KeepsOthers k sound s op answer after

pub returns-clause-plan : goal.returns-clause-plan
returns-clause-plan c = λ k s answer after sound. plan_sound KeepsOthers k sound s answer after
