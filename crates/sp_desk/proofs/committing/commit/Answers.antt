use Rattle.sp_desk.specs.Committing.{Queues}
use Rattle.sp_desk.proofs.Joining.{course_none, course_join}
use Rattle.sp_desk.proofs.Batching.{queues_more, commits_so}
use Rattle.sp_desk.proofs.committing.commit.Goals as goal

pub loop-init : goal.loop-init
loop-init g c = record { queues = Queues.Stays; course = course_none _ _ _ _ _ _ }

pub loop-preserved : goal.loop-preserved
loop-preserved g c = record {
  queues = queues_more _ _ _ _ _ _ c.loop.invariant.queues c.step.ensures.answers c.in-Queued.is c.in_ok-write_batch-in-Queued.ensures.stores;
  course = course_join _ _ _ _ _ _ _ _ c.loop.invariant.course (course_join _ _ _ _ _ _ _ _ c.step.ensures.course c.write_batch.ensures.course);
}

pub returns-in_err-write_batch-in-Queued-clause-course : goal.returns-in_err-write_batch-in-Queued-clause-course
returns-in_err-write_batch-in-Queued-clause-course g c = course_join _ _ _ _ _ _ _ _ c.loop.invariant.course (course_join _ _ _ _ _ _ _ _ c.step.ensures.course c.write_batch.ensures.course)

pub returns-in_default-clause-commits : goal.returns-in_default-clause-commits
returns-in_default-clause-commits g c = commits_so _ _ _ _ _ c.loop.invariant.queues c.step.ensures.answers c.in_default.not-Queued

pub returns-in_default-clause-course : goal.returns-in_default-clause-course
returns-in_default-clause-course g c = course_join _ _ _ _ _ _ _ _ c.loop.invariant.course c.step.ensures.course

pub returns-in-Queued-step-clause-course : goal.returns-in-Queued-step-clause-course
returns-in-Queued-step-clause-course g c = course_join _ _ _ _ _ _ _ _ c.loop.invariant.course c.step-2.ensures.course

pub returns-in_default-step-clause-commits : goal.returns-in_default-step-clause-commits
returns-in_default-step-clause-commits g c = commits_so _ _ _ _ _ c.loop.invariant.queues c.step-2.ensures.answers c.in_default-step.not-Queued

pub returns-in_default-step-clause-course : goal.returns-in_default-step-clause-course
returns-in_default-step-clause-course g c = course_join _ _ _ _ _ _ _ _ c.loop.invariant.course c.step-2.ensures.course
