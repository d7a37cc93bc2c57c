use Rattle.std.proofs.Common.{sym, ◌∙◌}
use Rattle.sp_desk.specs.Cleaning.{Cleans}
use Rattle.sp_desk.proofs.Joining.{course_none, course_join}
use Rattle.sp_desk.proofs.Batching.{cleans_more}
use Rattle.sp_desk.proofs.cleaning.clean.Goals as goal

pub loop-init : goal.loop-init
loop-init g c = record { cleans = Cleans.Stays; course = course_none _ _ _ _ _ _ }

pub returns-in-Some-clause-course : goal.returns-in-Some-clause-course
returns-in-Some-clause-course g c = course_join _ _ _ _ _ _ _ _ c.loop.invariant.course c.step.ensures.course

pub loop-preserved : goal.loop-preserved
loop-preserved g c = record {
  cleans = cleans_more _ _ _ _ _ c.loop.invariant.cleans c.step.ensures.answers (sym c.fault_of.ensures.fault ∙ c.in_default.is);
  course = course_join _ _ _ _ _ _ _ _ c.loop.invariant.course c.step.ensures.course;
}
