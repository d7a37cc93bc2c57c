use Rattle.sp_waits.proofs.Granting.{grant-acyclic, gifts-acyclic}
use Rattle.sp_waits.proofs.laws.grants_make_no_cycle.Goals as goal

pub returns-clause-granted : goal.returns-clause-granted
returns-clause-granted c = grant-acyclic

pub returns-clause-given : goal.returns-clause-given
returns-clause-given c = gifts-acyclic
