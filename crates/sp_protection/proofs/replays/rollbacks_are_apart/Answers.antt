use Rattle.sp_protection.proofs.replays.rollbacks_are_apart.Goals as goal
use Rattle.sp_protection.proofs.Applying.{rollback-live, rollback_replays}

pub returns-clause-live : goal.returns-clause-live
returns-clause-live c = rollback-live

pub returns-clause-other : goal.returns-clause-other
returns-clause-other c = rollback_replays
