use Rattle.sp_desk.proofs.Answering.{answer_fault}
use Rattle.sp_desk.proofs.Courses.{course_one}
use Rattle.sp_desk.proofs.course.step.Goals as goal

pub returns-clause-course : goal.returns-clause-course
returns-clause-course g c = course_one _ _ _ _ _ _ _ c.args.event c.step.result c.step.ensures.answers c.step.ensures.crash c.step.ensures.kinds c.step.ensures.later c.step.ensures.fault c.step.ensures.tells c.step.ensures.takes

pub returns-clause-stops : goal.returns-clause-stops
returns-clause-stops g c = answer_fault _ c.args.event c.step.result _ c.step.ensures.answers
