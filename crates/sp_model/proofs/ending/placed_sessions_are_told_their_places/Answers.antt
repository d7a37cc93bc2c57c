use Rattle.sp_model.specs.Removal.{KeepsOthers}
use Rattle.sp_model.proofs.Bare.{bare}
use Rattle.sp_model.proofs.Placing.{does_place, told_own}
use Rattle.sp_model.proofs.ending.placed_sessions_are_told_their_places.Goals as goal

pub returns-clause-stays : goal.returns-clause-stays
returns-clause-stays c = λ k event answer after sound. does_place KeepsOthers event k answer after (bare k sound) sound.places

pub returns-clause-told : goal.returns-clause-told
returns-clause-told c = λ k s x answer after sound. told_own KeepsOthers k s x answer after sound.places
