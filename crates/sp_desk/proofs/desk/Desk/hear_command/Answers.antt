use Rattle.std.proofs.Common.{[], refl}
use Rattle.std.proofs.lemmas.Result.{err_from_is_err_and}
use Rattle.sp_lines.proofs.Results.{ok_along}
use Rattle.sp_desk.proofs.Joining.{course_join}
use Rattle.sp_desk.proofs.Laws.{passes_join, stops_later, stops_none}
use Rattle.sp_desk.proofs.Waking.{rests_then, err_free}
use Rattle.sp_desk.proofs.desk.Desk.hear_command.Goals as goal

pub returns-in_err-go_on-clause-breaks : goal.returns-in_err-go_on-clause-breaks
returns-in_err-go_on-clause-breaks g c =
    let p = err_from_is_err_and c.from_residual-in_err-go_on.result c.from_residual-in_err-go_on.ensures.1 in
    rw (p.1, p.2) (stops_later _ _ _ _ [] _ _ _ c.in_ok-tell.ensures.passes c.in_err-go_on.ensures.breaks)

pub returns-in_err-go_on-clause-course : goal.returns-in_err-go_on-clause-course
returns-in_err-go_on-clause-course g c = course_join _ _ _ _ _ _ _ _ c.tell.ensures.course c.go_on.ensures.course

pub returns-clause-passes : goal.returns-clause-passes
returns-clause-passes g c = ok_along _ _ _ (λ cleans. passes_join _ _ _ _ [] _ _ _ (passes_join _ _ _ _ [] _ _ _ c.in_ok-tell.ensures.passes c.in_ok-go_on.ensures.passes) (rests_then _ _ _ _ _ c.in_ok-go_on.ensures.rests cleans)) c.clean.ensures.cleans

pub returns-clause-breaks : goal.returns-clause-breaks
returns-clause-breaks g c = err_free c.clean.result _ c.clean.ensures.unwritten
    (λ f free. stops_later f _ _ _ [] _ _ _ (passes_join _ _ _ _ [] _ _ _ c.in_ok-tell.ensures.passes c.in_ok-go_on.ensures.passes) (stops_none f _ _ _ _ free refl c.clean.ensures.course.leads refl))

pub returns-clause-course : goal.returns-clause-course
returns-clause-course g c = course_join _ _ _ _ _ _ _ _ (course_join _ _ _ _ _ _ _ _ c.tell.ensures.course c.go_on.ensures.course) c.clean.ensures.course
