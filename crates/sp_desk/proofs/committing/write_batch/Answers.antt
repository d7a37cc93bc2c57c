use Rattle.sp_desk.specs.Committing.{Writes}
use Rattle.sp_desk.proofs.Joining.{course_none, course_join}
use Rattle.sp_desk.proofs.Batching.{writes_more, stores_so, fails_so}
use Rattle.sp_desk.proofs.committing.write_batch.Goals as goal

pub loop-init : goal.loop-init
loop-init g c = record { writes = Writes.Stays; course = course_none _ _ _ _ _ _ }

pub loop-preserved : goal.loop-preserved
loop-preserved g c = record {
  writes = writes_more _ _ _ _ c.loop.invariant.writes c.step.ensures.answers c.in-Wrote.is;
  course = course_join _ _ _ _ _ _ _ _ c.loop.invariant.course c.step.ensures.course;
}

pub returns-in-Durable-clause-stores : goal.returns-in-Durable-clause-stores
returns-in-Durable-clause-stores g c = stores_so _ _ _ _ c.in-Durable.first c.in-Durable.count c.loop.invariant.writes c.step.ensures.answers c.in-Durable.is

pub returns-in-Durable-clause-course : goal.returns-in-Durable-clause-course
returns-in-Durable-clause-course g c = course_join _ _ _ _ _ _ _ _ c.loop.invariant.course c.step.ensures.course

pub returns-in_default-clause-course : goal.returns-in_default-clause-course
returns-in_default-clause-course g c = course_join _ _ _ _ _ _ _ _ c.loop.invariant.course c.step.ensures.course

pub returns-in_default-clause-stops : goal.returns-in_default-clause-stops
returns-in_default-clause-stops g c = fails_so _ _ _ c.failure_of.ensures.told c.step.ensures.stops
