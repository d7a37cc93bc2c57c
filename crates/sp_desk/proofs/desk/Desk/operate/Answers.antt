use Rattle.sp_desk.proofs.Joining.{course_none}
use Rattle.sp_desk.proofs.desk.Desk.operate.Goals as goal

pub returns-in_default-clause-course : goal.returns-in_default-clause-course
returns-in_default-clause-course g c = course_none _ _ _ _ _ _
