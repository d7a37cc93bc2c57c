use Rattle.sp_insertion.proofs.insertion.plans_are_insertions.Goals as goal
use Rattle.sp_insertion.proofs.Inserting.{plan_inserts}

pub returns : goal.returns
returns c = plan_inserts
