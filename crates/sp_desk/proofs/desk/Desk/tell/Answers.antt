use Rattle.std.proofs.Common.{refl, ap, ◌∙◌}
use Rattle.std.proofs.lemmas.Result.{err_from_is_err_and}
use Rattle.sp_lines.proofs.Results.{err_along}
use Rattle.sp_lines.specs.Keeping.{Notes}
use Rattle.sp_desk.proofs.Laws.{stops_none}
use Rattle.sp_desk.proofs.Telling.{ok_both, told_passes, told_stops, unwritten_so}
use Rattle.sp_desk.proofs.desk.Desk.tell.Goals as goal

pub returns-in_err-answer-clause-breaks : goal.returns-in_err-answer-clause-breaks
returns-in_err-answer-clause-breaks g c =
    let p = err_from_is_err_and c.from_residual.result c.from_residual.ensures.1 in
    rw (p.1, p.2) (stops_none _ _ _ _ _ (unwritten_so c.answer.result _ c.in_err-answer.was c.answer.ensures.unwritten) (ap (λ (n : Notes). n.items) c.answer.ensures.scribe) c.answer.ensures.course.leads refl)

pub returns-clause-passes : goal.returns-clause-passes
returns-clause-passes g c =
    ok_both _ _ _ _ (λ kept wrote. told_passes c.args.session c.args.command c.in_ok-answer.answer _ _ _ _ _ _ _ _ _ c.answer.new.self.scribe.form (ap (λ (n : Notes). n.form) c.answer.ensures.scribe ∙ c.requires) (ap (λ (n : Notes). n.items) c.answer.ensures.scribe)
    c.in_ok-answer.ensures.does c.in_ok-answer.ensures.told kept wrote) c.keep.ensures.items c.keep.ensures.written

pub returns-clause-breaks : goal.returns-clause-breaks
returns-clause-breaks g c =
    err_along _ _ _ (λ f k. told_stops f c.args.session c.args.command c.in_ok-answer.answer _ _ _ _ _ _ _ _ _ c.answer.new.self.scribe.form (ap (λ (n : Notes). n.form) c.answer.ensures.scribe ∙ c.requires) (ap (λ (n : Notes). n.items) c.answer.ensures.scribe)
    c.in_ok-answer.ensures.does c.in_ok-answer.ensures.told c.answer.ensures.course.leads k) c.keep.ensures.stops
