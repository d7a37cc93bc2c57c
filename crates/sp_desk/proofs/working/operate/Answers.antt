use Rattle.sp_desk.specs.Working.{Operates}
use Rattle.sp_desk.proofs.Joining.{course_join}
use Rattle.sp_desk.proofs.Operating.{starts_so}
use Rattle.sp_desk.proofs.working.operate.Goals as goal

pub returns-in-Started-clause-operates : goal.returns-in-Started-clause-operates
returns-in-Started-clause-operates g c = starts_so _ _ _ _ _ _ _ _ c.in-Started.is c.step.ensures.answers c.proceed.ensures.proceeds

pub returns-in-Started-clause-course : goal.returns-in-Started-clause-course
returns-in-Started-clause-course g c = course_join _ _ _ _ _ _ _ _ c.step.ensures.course c.proceed.ensures.course

pub returns-in_default : goal.returns-in_default
returns-in_default g c = record {
  operates = Operates.IsRefused _ _ _ c.step.ensures.answers c.in_default.not-Started;
  course = c.step.ensures.course;
  stops = c.step.ensures.stops;
}
