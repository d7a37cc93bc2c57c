use Rattle.sp_protection.proofs.replays.operations_apply.Goals as goal
use Rattle.sp_protection.proofs.Applying.{applied-live, apply_replays, other_replays}

pub returns-clause-live : goal.returns-clause-live
returns-clause-live c = applied-live

pub returns-clause-own : goal.returns-clause-own
returns-clause-own c = apply_replays

pub returns-clause-other : goal.returns-clause-other
returns-clause-other c = other_replays
