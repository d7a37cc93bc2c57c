use Rattle.sp_granule.specs.Granules.{granules}
use Rattle.sp_protection.proofs.insertion.insertions_keep_marks_owned.Goals as goal
use Rattle.sp_protection.proofs.Marking.{insertion_keeps_marks_owned}

pub returns : goal.returns
returns c = λ before after. insertion_keeps_marks_owned (granules before) (granules after)
