use Rattle.sp_desk.proofs.Telling.{freed_so, kept_so}
use Rattle.sp_desk.proofs.desk.Desk.roll_back.Goals as goal

pub returns-in-RolledBack-clause-does : goal.returns-in-RolledBack-clause-does
returns-in-RolledBack-clause-does g c = freed_so _ _ _ _ _ _ c.step-answer.ensures.answers c.in-RolledBack.is c.free.ensures.stalled

pub returns-in_default-clause-does : goal.returns-in_default-clause-does
returns-in_default-clause-does g c = kept_so _ _ _ _ _ c.step-answer.ensures.answers c.in_default.not-RolledBack
