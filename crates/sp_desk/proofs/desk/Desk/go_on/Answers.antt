use Rattle.std.proofs.Common.{[], arith}
use Rattle.std.proofs.lemmas.Result.{err_from_is_err_and}
use Rattle.sp_desk.proofs.Joining.{course_none, course_join}
use Rattle.sp_desk.proofs.Laws.{passes_none, passes_join, stops_later}
use Rattle.sp_desk.proofs.Waking.{passes_stop, memory_apart}
use Rattle.sp_desk.proofs.desk.Desk.go_on.Goals as goal

pub loop-init : goal.loop-init
loop-init g c = record { passes = passes_none _ _; form = c.requires; course = course_none _ _ _ _ _ _; later = omega arith }

pub loop-preserved : goal.loop-preserved
loop-preserved g c = record {
  passes = passes_join _ _ _ [] [] _ _ _ c.loop.invariant.passes c.in_ok-wake_one.ensures.passes;
  form = c.wake_one.ensures.form;
  course = course_join _ _ _ _ _ _ _ _ c.loop.invariant.course c.wake_one.ensures.course;
  later = omega (arith, c.loop.invariant.later, c.wake_one.ensures.later);
}

pub returns-in_err-wake_one-clause-breaks : goal.returns-in_err-wake_one-clause-breaks
returns-in_err-wake_one-clause-breaks g c =
    let p = err_from_is_err_and c.from_residual.result c.from_residual.ensures.1 in
    rw (p.1, p.2) (stops_later _ _ _ [] [] _ _ _ c.loop.invariant.passes c.in_err-wake_one.ensures.breaks)

pub returns-in_err-wake_one-clause-course : goal.returns-in_err-wake_one-clause-course
returns-in_err-wake_one-clause-course g c = course_join _ _ _ _ _ _ _ _ c.loop.invariant.course c.wake_one.ensures.course

pub returns-then-not-branch-clause-passes : goal.returns-then-not-branch-clause-passes
returns-then-not-branch-clause-passes g c = passes_join _ _ _ [] [] _ _ _ c.loop.invariant.passes c.in_ok-wake_one.ensures.passes

pub returns-then-not-branch-clause-course : goal.returns-then-not-branch-clause-course
returns-then-not-branch-clause-course g c = course_join _ _ _ _ _ _ _ _ c.loop.invariant.course c.wake_one.ensures.course

pub returns-clause-breaks : goal.returns-clause-breaks
returns-clause-breaks g c = passes_stop _ _ _ _ _ _ memory_apart c.loop.invariant.passes
