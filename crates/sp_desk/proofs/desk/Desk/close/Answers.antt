use Rattle.std.proofs.Common.{refl}
use Rattle.sp_lines.proofs.Results.{ok_along, err_along}
use Rattle.sp_desk.proofs.Laws.{stops_none}
use Rattle.sp_desk.proofs.Batching.{fails_so}
use Rattle.sp_desk.proofs.Closing.{refused_over, over_more, closed_over, closed_passes, closed_stops}
use Rattle.sp_desk.proofs.Telling.{ok_both}
use Rattle.sp_desk.proofs.Waking.{stays_passes}
use Rattle.sp_desk.proofs.desk.Desk.close.Goals as goal

pub returns-in-Refused-clause-passes : goal.returns-in-Refused-clause-passes
returns-in-Refused-clause-passes g c = stays_passes _ _ _ _ _ _ (refused_over _ _ _ c.in-Refused.field-0 _ c.step-answer.ensures.answers c.in-Refused.is).0

pub returns-in-Refused-clause-over : goal.returns-in-Refused-clause-over
returns-in-Refused-clause-over g c = let r = refused_over _ _ _ c.in-Refused.field-0 _ c.step-answer.ensures.answers c.in-Refused.is in over_more _ _ _ c.requires.over r.0 r.1

pub returns-in-RolledBack-clause-over : goal.returns-in-RolledBack-clause-over
returns-in-RolledBack-clause-over g c = ok_along _ _ _ (λ kept. closed_over _ _ _ _ c.requires.over c.step-answer.ensures.answers c.in-RolledBack.is) c.keep.ensures.items

pub returns-in-RolledBack-clause-passes : goal.returns-in-RolledBack-clause-passes
returns-in-RolledBack-clause-passes g c =
    ok_both _ _ _ _ (λ kept wrote. closed_passes _ _ _ _ _ _ _ _ _ c.args.self.now.scribe.form c.requires.form c.requires.over c.step-answer.ensures.answers c.in-RolledBack.is kept wrote) c.keep.ensures.items c.keep.ensures.written

pub returns-in-RolledBack-clause-breaks : goal.returns-in-RolledBack-clause-breaks
returns-in-RolledBack-clause-breaks g c =
    err_along _ _ _ (λ f k. closed_stops f _ _ _ _ _ _ _ _ _ c.args.self.now.scribe.form c.requires.form c.requires.over c.step-answer.ensures.answers c.in-RolledBack.is c.step-answer.ensures.course.leads k) c.keep.ensures.stops

pub returns-in_default-clause-breaks : goal.returns-in_default-clause-breaks
returns-in_default-clause-breaks g c = stops_none _ _ _ _ _ c.failure_of.ensures.unwritten refl c.step-answer.ensures.course.leads refl

pub returns-in_default-clause-stops : goal.returns-in_default-clause-stops
returns-in_default-clause-stops g c = fails_so _ _ _ c.failure_of.ensures.told c.step-answer.ensures.stops
