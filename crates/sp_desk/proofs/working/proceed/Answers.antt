use Rattle.std.proofs.Common.{sym, ◌∙◌}
use Rattle.sp_desk.specs.Working.{Reaches}
use Rattle.sp_desk.proofs.Joining.{course_none, course_join}
use Rattle.sp_desk.proofs.Operating.{asked, goes_on, proceeds_then}
use Rattle.sp_desk.proofs.working.proceed.Goals as goal

pub loop-next-init : goal.loop-next-init
loop-next-init g c = record { reaches = Reaches.Stays; course = course_none _ _ _ _ _ _ }

pub returns-in-None-clause-proceeds : goal.returns-in-None-clause-proceeds
returns-in-None-clause-proceeds g c =
    proceeds_then _ _ _ _ _ _ _ c.loop-next.invariant.reaches (asked _ _ _ _ _ _ c.event.ensures c.step-answer.ensures.answers) (sym c.after.ensures.next ∙ c.in-None.is)

pub returns-in-None-clause-course : goal.returns-in-None-clause-course
returns-in-None-clause-course g c = course_join _ _ _ _ _ _ _ _ c.loop-next.invariant.course c.step-answer.ensures.course

pub loop-next-preserved : goal.loop-next-preserved
loop-next-preserved g c = record {
  reaches = goes_on _ _ _ _ _ _ _ _ _ c.loop-next.invariant.reaches c.event.ensures c.step-answer.ensures.answers (sym c.after.ensures.next ∙ c.in-Some.is);
  course = course_join _ _ _ _ _ _ _ _ c.loop-next.invariant.course c.step-answer.ensures.course;
}

pub loop-next-preserved-in-Some : goal.loop-next-preserved-in-Some
loop-next-preserved-in-Some g c = record {
  reaches = goes_on _ _ _ _ _ _ _ _ _ c.loop-next.invariant.reaches c.event.ensures c.step-answer.ensures.answers (sym c.after.ensures.next ∙ c.in-Some.is);
  course = course_join _ _ _ _ _ _ _ _ c.loop-next.invariant.course c.step-answer.ensures.course;
}

pub loop-next-preserved-in-Some-2 : goal.loop-next-preserved-in-Some-2
loop-next-preserved-in-Some-2 g c = record {
  reaches = goes_on _ _ _ _ _ _ _ _ _ c.loop-next.invariant.reaches c.event.ensures c.step-answer.ensures.answers (sym c.after.ensures.next ∙ c.in-Some.is);
  course = course_join _ _ _ _ _ _ _ _ c.loop-next.invariant.course c.step-answer.ensures.course;
}
