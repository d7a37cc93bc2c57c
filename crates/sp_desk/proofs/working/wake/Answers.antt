use Rattle.std.proofs.Common.{sym, ◌∙◌}
use Rattle.sp_desk.proofs.Joining.{course_join}
use Rattle.sp_desk.proofs.Operating.{asked, proceeds_front, proceeds_once, still_so, not_still, awake_then, going}
use Rattle.sp_desk.proofs.working.wake.Goals as goal

pub returns-in_default-Still-clause-wakes : goal.returns-in_default-Still-clause-wakes
returns-in_default-Still-clause-wakes g c = (still_so _ _ _ _ _ c.in_default-Still.field-0-1 c.in_default-Still.is-1 (asked _ _ _ _ _ _ c.event.ensures c.step-answer.ensures.answers)).0

pub returns-in_default-Still-clause-awake : goal.returns-in_default-Still-clause-awake
returns-in_default-Still-clause-awake g c = (still_so _ _ _ _ _ c.in_default-Still.field-0-1 c.in_default-Still.is-1 (asked _ _ _ _ _ _ c.event.ensures c.step-answer.ensures.answers)).1

pub returns-in-Some-default : goal.returns-in-Some-default
returns-in-Some-default g c =
    let answers = asked _ _ _ _ _ _ c.event.ensures c.step-answer.ensures.answers in
    let goes = sym c.after.ensures.next ∙ c.in-Some-default.is-0 in
    record {
      wakes = proceeds_front _ _ _ _ _ _ _ _ _ answers goes c.proceed.ensures.proceeds;
      awake = λ e. awake_then _ _ _ _ _ answers (going _ _ _ goes).0 (going _ _ _ goes).1;
      course = course_join _ _ _ _ _ _ _ _ c.step-answer.ensures.course c.proceed.ensures.course;
      stops = c.proceed.ensures.stops;
    }

pub returns-in-None-default : goal.returns-in-None-default
returns-in-None-default g c =
    let answers = asked _ _ _ _ _ _ c.event.ensures c.step-answer.ensures.answers in
    record {
      wakes = proceeds_once _ _ _ _ _ answers (sym c.after.ensures.next ∙ c.in-None-default.is-0);
      awake = λ e. awake_then _ _ _ _ _ answers (not_still _ c.in-None-default.not-Still-1) e;
      course = c.step-answer.ensures.course;
      stops = c.step-answer.ensures.stops;
    }
