use Rattle.sp_protection.proofs.phantoms.needs_guard.Goals as goal
use Rattle.sp_protection.proofs.Rules.{needs_meet, needs_guard as lemma}

pub returns-clause-meeting : goal.returns-clause-meeting
returns-clause-meeting c = needs_meet

pub returns-clause-guarded : goal.returns-clause-guarded
returns-clause-guarded c = lemma
