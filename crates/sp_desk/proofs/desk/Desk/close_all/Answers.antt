use Rattle.std.proofs.Common.{[], arith}
use Rattle.std.proofs.lemmas.Result.{err_from_is_err_and}
use Rattle.sp_desk.proofs.Joining.{course_none, course_join}
use Rattle.sp_desk.proofs.Laws.{passes_none, passes_join, stops_later}
use Rattle.sp_desk.proofs.Ending.{over_none}
use Rattle.sp_desk.proofs.desk.Desk.close_all.Goals as goal

pub loop-session-init : goal.loop-session-init
loop-session-init g c = record { passes = passes_none _ _; over = over_none _; form = c.requires; course = course_none _ _ _ _ _ _; later = omega arith }

pub loop-session-preserved : goal.loop-session-preserved
loop-session-preserved g c = record {
  passes = passes_join _ _ _ [] [] _ _ _ c.loop-session.invariant.passes c.in_ok-close.ensures.passes;
  over = c.in_ok-close.ensures.over;
  form = c.close.ensures.form;
  course = course_join _ _ _ _ _ _ _ _ c.loop-session.invariant.course c.close.ensures.course;
  later = omega (arith, c.loop-session.invariant.later, c.close.ensures.later);
}

pub returns-in_err-close-clause-breaks : goal.returns-in_err-close-clause-breaks
returns-in_err-close-clause-breaks g c =
    let p = err_from_is_err_and c.from_residual.result c.from_residual.ensures.1 in
    rw (p.1, p.2) (stops_later _ _ _ [] [] _ _ _ c.loop-session.invariant.passes c.in_err-close.ensures.breaks)

pub returns-in_err-close-clause-course : goal.returns-in_err-close-clause-course
returns-in_err-close-clause-course g c = course_join _ _ _ _ _ _ _ _ c.loop-session.invariant.course c.close.ensures.course
