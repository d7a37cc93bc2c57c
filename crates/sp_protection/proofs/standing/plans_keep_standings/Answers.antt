use Rattle.sp_protection.proofs.standing.plans_keep_standings.Goals as goal
use Rattle.sp_protection.proofs.Places.{plan_keeps_standings}

pub returns : goal.returns
returns c = plan_keeps_standings
