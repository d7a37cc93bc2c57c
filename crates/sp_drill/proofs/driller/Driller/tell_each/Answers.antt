use Rattle.std.proofs.Common.{arith, ◌<◌, ◌+◌, ℕ, List, [], drop, length, get_or, sym, subst}
use Rattle.std.proofs.lemmas.Result.{err_from_is_err_and}
use Rattle.sp_drill.specs.Drilling.{Next}
use Rattle.sp_drill.specs.Hearing.{Goes, Stops}
use Rattle.sp_drill.proofs.Joining.{goes_none, goes_more, stops_later}
use Rattle.sp_drill.proofs.Going.{goes_place}
use Rattle.sp_drill.proofs.Stopping.{stops_place}
use Rattle.sp_drill.proofs.Running.{next_session}
use Rattle.sp_drill.proofs.driller.Driller.tell_each.Goals as goal

pub loop-session-init : goal.loop-session-init
loop-session-init g c = record {
  ready = c.requires;
  goes = goes_none g.D.Disk.tells g.D.Disk.takes_memory g.D.Disk.faults g.D.Disk.moment g.D.Disk.images (Next.Tells c.args.batch.now) c.args.self.now.scribe c.args.kernel.now (g.K.Sink.taken c.args.sink.now);
  later = omega arith;
}

pub loop-session-preserved : goal.loop-session-preserved
loop-session-preserved g c =
    let xs = c.args.batch.now in
    let i = c.loop-session.session-index in
    let here : i < length xs = omega arith in
    record {
      ready = c.step.ensures.ready;
      goes = goes_more g.D.Disk.tells g.D.Disk.takes_memory g.D.Disk.faults g.D.Disk.moment g.D.Disk.images (Next.Tells xs) (Next.Tells (drop i xs)) (Next.Tells (drop (i + 1) xs)) [] [] _ _ _ _ _ _ _ _ _ c.loop-session.invariant.goes
          (subst (λ (left : List ℕ). Goes g.D.Disk.tells g.D.Disk.takes_memory g.D.Disk.faults g.D.Disk.moment g.D.Disk.images (Next.Tells left) (Next.Tells (drop (i + 1) xs)) [] c.loop-session.self.scribe c.loop-session.kernel (g.K.Sink.taken c.loop-session.sink) c.step.new.self.scribe c.step.new.kernel (g.K.Sink.taken c.step.new.sink))
          (sym (next_session xs i here))
          (goes_place g.D.Disk.tells g.D.Disk.takes_memory g.D.Disk.faults g.D.Disk.moment g.D.Disk.images c.loop-session.self.scribe c.step.new.self.scribe c.loop-session.kernel c.step.new.kernel (g.K.Sink.taken c.loop-session.sink) (g.K.Sink.taken c.step.new.sink) c.step.ensures.leads (get_or xs i 0) (drop (i + 1) xs) c.in_ok-step.field-0 c.in_ok-step.ensures.does));
      later = omega (arith, c.step.ensures.later);
    }

pub returns-in_err-step-clause-stops : goal.returns-in_err-step-clause-stops
returns-in_err-step-clause-stops g c =
    let p = err_from_is_err_and c.from_residual.result c.from_residual.ensures.1 in
    rw (p.1, p.2) (
    let xs = c.args.batch.now in
    let i = c.loop-session.session-index in
    let here : i < length xs = omega arith in
    stops_later g.D.Disk.tells g.D.Disk.takes_memory g.D.Disk.faults g.D.Disk.moment g.D.Disk.images (Next.Tells xs) (Next.Tells (drop i xs)) c.in_err-step.field-0.0 [] [] _ _ _ _ _ _ _ _ _ c.loop-session.invariant.goes
    (subst (λ (left : List ℕ). Stops g.D.Disk.tells g.D.Disk.takes_memory g.D.Disk.faults g.D.Disk.moment g.D.Disk.images (Next.Tells left) c.in_err-step.field-0.0 [] c.loop-session.self.scribe c.loop-session.kernel (g.K.Sink.taken c.loop-session.sink) c.step.new.self.scribe c.step.new.kernel (g.K.Sink.taken c.step.new.sink))
    (sym (next_session xs i here))
    (stops_place g.D.Disk.tells g.D.Disk.takes_memory g.D.Disk.faults g.D.Disk.moment g.D.Disk.images c.loop-session.self.scribe c.step.new.self.scribe c.loop-session.kernel c.step.new.kernel (g.K.Sink.taken c.loop-session.sink) (g.K.Sink.taken c.step.new.sink) c.step.ensures.leads c.in_err-step.field-0.0 (get_or xs i 0) (drop (i + 1) xs) c.in_err-step.ensures.until))
    )
