use Rattle.std.proofs.Common.{refl, ◌∙◌, arith}
use Rattle.sp_desk.proofs.Joining.{course_none, course_join}
use Rattle.std.proofs.lemmas.Option.{slice_get_read, slice_get_within}
use Rattle.sp_desk.proofs.Stalling.{wait_more, wakes_so}
use Rattle.sp_desk.proofs.stalled.wake_first.Goals as goal

pub loop-at-init : goal.loop-at-init
loop-at-init g c = record { first = λ i x l. absurd (omega (arith, l)); same = refl; course = course_none _ _ _ _ _ _ }

pub loop-at-preserved : goal.loop-at-preserved
loop-at-preserved g c = record {
  first = wait_more _ _ _ _ c.index-stalled-at.result c.loop-at.invariant.first c.loop-at.invariant.same (slice_get_read _ _ _ _ refl c.loop-at-test.true c.index-stalled-at.is) c.in_default.ensures.wakes;
  same = c.in_default.ensures.awake ∙ c.loop-at.invariant.same;
  course = course_join _ _ _ _ _ _ _ _ c.loop-at.invariant.course c.wake.ensures.course;
}

pub returns-in-Some-clause-course : goal.returns-in-Some-clause-course
returns-in-Some-clause-course g c = course_join _ _ _ _ _ _ _ _ c.loop-at.invariant.course c.wake.ensures.course

pub returns-in-Some-clause-wakes : goal.returns-in-Some-clause-wakes
returns-in-Some-clause-wakes g c =
    wakes_so _ _ _ _ c.index-stalled-at.result _ _ _ c.loop-at.invariant.first c.loop-at.invariant.same (slice_get_read _ _ _ _ refl c.loop-at-test.true c.index-stalled-at.is) c.in-Some.ensures.wakes c.in-Some.ensures.awake

pub returns-clause-wakes : goal.returns-clause-wakes
returns-clause-wakes g c = λ i x found. c.loop-at.invariant.first i x (omega (arith, c.loop-at-test.false, slice_get_within c.args.stalled.now i x found)) found
