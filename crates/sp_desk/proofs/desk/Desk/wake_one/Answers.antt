use Rattle.std.proofs.Common.{ℕ, ◌<◌, subst, refl, ap, ◌∙◌}
use Rattle.std.proofs.lemmas.Result.{err_from_is_err_and}
use Rattle.std.proofs.lemmas.Option.{slice_get_read}
use Rattle.sp_lines.specs.Keeping.{Notes}
use Rattle.sp_desk.proofs.Laws.{stops_none}
use Rattle.sp_desk.proofs.Telling.{unwritten_so}
use Rattle.sp_desk.proofs.Waking.{woken_within, woken_passes, woken_stops, wakes_told, moved_told, stays_passes}
use Rattle.sp_desk.proofs.desk.Desk.wake_one.Goals as goal

pub returns-in_default-clause-passes : goal.returns-in_default-clause-passes
returns-in_default-clause-passes g c = stays_passes _ _ _ _ _ _ (c.wake_first.ensures.same c.in_default.is)

pub remove-session-requires : goal.remove-session-requires
remove-session-requires g c = subst (λ (n : ℕ). c.in-Some.woken.at < n) c.as_slice.ensures.len (woken_within _ _ _ _ _ _ c.in-Some.ensures.wakes)

pub returns-in_err-answer-clause-breaks : goal.returns-in_err-answer-clause-breaks
returns-in_err-answer-clause-breaks g c =
    let p = err_from_is_err_and c.from_residual.result c.from_residual.ensures.1 in
    rw (p.1, p.2) (stops_none _ _ _ _ _ (unwritten_so c.settle.result _ c.in_err-answer.was c.settle.ensures.unwritten) (ap (λ (n : Notes). n.items) c.settle.ensures.scribe) c.wake_first.ensures.course.leads refl)

pub returns-in-Ok-clause-passes : goal.returns-in-Ok-clause-passes
returns-in-Ok-clause-passes g c =
    let told = c.in_ok-answer.ensures.told in
    woken_passes c.remove-session.result _ c.in_ok-answer.answer c.in-Some.woken.ending.point _ _ _ _ _ _ _ _ _ c.settle.new.self.scribe.form (ap (λ (n : Notes). n.form) c.settle.ensures.scribe ∙ c.requires) (ap (λ (n : Notes). n.items) c.settle.ensures.scribe)
    (wakes_told _ _ _ _ _ _ _ _ c.as_slice.ensures.value told.0 c.in-Some.ensures.wakes) (slice_get_read _ _ _ _ refl (woken_within _ _ _ _ _ _ (wakes_told _ _ _ _ _ _ _ _ c.as_slice.ensures.value refl c.in-Some.ensures.wakes)) c.remove-session.ensures.value) told.1
    (moved_told c.args.self.now.stalled.items _ _ c.in-Some.woken.at _ _ _ _ _ told.0 c.remove-session.ensures.items c.in_ok-answer.ensures.stalled) c.in-Ok.ensures.items c.in-Ok.ensures.written

pub returns-in-Err-clause-breaks : goal.returns-in-Err-clause-breaks
returns-in-Err-clause-breaks g c =
    let told = c.in_ok-answer.ensures.told in
    woken_stops c.in-Err.fault c.remove-session.result _ c.in_ok-answer.answer c.in-Some.woken.ending.point _ _ _ _ _ _ _ _ _ c.settle.new.self.scribe.form (ap (λ (n : Notes). n.form) c.settle.ensures.scribe ∙ c.requires) (ap (λ (n : Notes). n.items) c.settle.ensures.scribe)
    (wakes_told _ _ _ _ _ _ _ _ c.as_slice.ensures.value told.0 c.in-Some.ensures.wakes) (slice_get_read _ _ _ _ refl (woken_within _ _ _ _ _ _ (wakes_told _ _ _ _ _ _ _ _ c.as_slice.ensures.value refl c.in-Some.ensures.wakes)) c.remove-session.ensures.value) told.1
    (moved_told c.args.self.now.stalled.items _ _ c.in-Some.woken.at _ _ _ _ _ told.0 c.remove-session.ensures.items c.in_ok-answer.ensures.stalled) c.wake_first.ensures.course.leads c.in-Err.ensures.stops
