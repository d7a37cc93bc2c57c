use Rattle.sp_kernel.proofs.Going.{answer_keeps, history_keeps}
use Rattle.sp_kernel.proofs.laws.every_answer_keeps_sound.Goals as goal

pub returns-clause-event : goal.returns-clause-event
returns-clause-event c = answer_keeps

pub returns-clause-history : goal.returns-clause-history
returns-clause-history c = history_keeps
