use Rattle.std.proofs.Common.{◌++◌, ◌∷◌, [], arith}
use Rattle.sp_lines.specs.Taking.{line_of}
use Rattle.sp_lines.specs.declared.fault.Fault.TheVariants.{Write, Memory}
use Rattle.sp_lines.proofs.Taking.{taken_none}
use Rattle.sp_lines.proofs.Reading.{ended_run, failed_run, long_run, faulty_end, faulty_run, unheard_run}
use Rattle.sp_desk.proofs.Going.{went_none, went_line, halted_line, went_end, halted_end, halted_nothing, halted_more, went_flushed, halted_unwritten}
use Rattle.sp_desk.proofs.script.run.Goals as goal

pub loop-desk-init : goal.loop-desk-init
loop-desk-init g c = record {
  heard = ([], taken_none _ _ c.requires.unread c.requires.room, went_none _ _ _ _ _ _ _);
  form = c.requires.ready;
  reads = omega arith;
  writes = omega arith;
}

pub loop-desk-preserved : goal.loop-desk-preserved
loop-desk-preserved g c =
    let h = c.loop-desk.invariant.heard in
    let line = line_of c.next.new.self.ended c.next.new.self.line in
    record {
      heard = (
        h.0 ++ line ∷ [],
        c.in-Line.ensures.comes _ h.0 h.1,
        went_line _ _ _ _ _ _ _ _ line _ _ _ _ _ _ c.line.ensures (went_flushed _ _ _ _ _ h.0 _ _ _ _ _ c.next.ensures.taken h.2) c.in_default.ensures.goes,
      );
      form = c.hear_line.ensures.form;
      reads = omega (arith, c.loop-desk.invariant.reads, c.next.ensures.later);
      writes = omega (arith, c.loop-desk.invariant.writes, c.next.ensures.counts, c.hear_line.ensures.later);
    }

pub returns-in-Err-clause-runs : goal.returns-in-Err-clause-runs
returns-in-Err-clause-runs g c =
    let h = c.loop-desk.invariant.heard in
    let line = line_of c.next.new.self.ended c.next.new.self.line in
    let stops = halted_line _ _ _ _ _ _ _ _ line _ _ _ _ _ _ c.line.ensures (went_flushed _ _ _ _ _ h.0 _ _ _ _ _ c.next.ensures.taken h.2) c.in-Err.ensures.stops in
    faulty_run _ _ _ (h.0 ++ line ∷ []) _ _ _ c.end_of.ensures _ _ (c.in-Line.ensures.comes _ h.0 h.1) (λ others. halted_more _ _ _ _ _ _ _ others _ _ _ _ stops)

pub returns-in-Ok-clause-runs : goal.returns-in-Ok-clause-runs
returns-in-Ok-clause-runs g c =
    let h = c.loop-desk.invariant.heard in
    let line = line_of c.next.new.self.ended c.next.new.self.line in
    ended_run _ _ _ (h.0 ++ line ∷ []) (c.in-Last.ensures.comes _ h.0 h.1)
    (went_line _ _ _ _ _ _ _ _ line _ _ _ _ _ _ c.line-in-Last.ensures (went_flushed _ _ _ _ _ h.0 _ _ _ _ _ c.next.ensures.taken h.2) c.in-Ok.ensures.goes)

pub returns-in-Err-hear_last-clause-runs : goal.returns-in-Err-hear_last-clause-runs
returns-in-Err-hear_last-clause-runs g c =
    let h = c.loop-desk.invariant.heard in
    let line = line_of c.next.new.self.ended c.next.new.self.line in
    faulty_end _ _ _ (h.0 ++ line ∷ []) _ _ _ c.end_of-in-Err-hear_last.ensures (c.in-Last.ensures.comes _ h.0 h.1)
    (halted_line _ _ _ _ _ _ _ _ line _ _ _ _ _ _ c.line-in-Last.ensures (went_flushed _ _ _ _ _ h.0 _ _ _ _ _ c.next.ensures.taken h.2) c.in-Err-hear_last.ensures.stops)

pub returns-in-Ok-hear_end-clause-runs : goal.returns-in-Ok-hear_end-clause-runs
returns-in-Ok-hear_end-clause-runs g c =
    let h = c.loop-desk.invariant.heard in
    ended_run _ _ _ h.0 (c.in-End.ensures.comes _ h.0 h.1) (went_end _ _ _ _ _ _ _ _ _ _ _ _ (went_flushed _ _ _ _ _ h.0 _ _ _ _ _ c.next.ensures.taken h.2) c.in-Ok-hear_end.ensures.goes)

pub returns-in-Err-hear_end-clause-runs : goal.returns-in-Err-hear_end-clause-runs
returns-in-Err-hear_end-clause-runs g c =
    let h = c.loop-desk.invariant.heard in
    faulty_end _ _ _ h.0 _ _ _ c.end_of-in-Err-hear_end.ensures (c.in-End.ensures.comes _ h.0 h.1)
    (halted_end _ _ _ _ _ _ _ _ _ _ _ _ _ (went_flushed _ _ _ _ _ h.0 _ _ _ _ _ c.next.ensures.taken h.2) c.in-Err-hear_end.ensures.stops)

pub returns-in-Failed-clause-runs : goal.returns-in-Failed-clause-runs
returns-in-Failed-clause-runs g c =
    let h = c.loop-desk.invariant.heard in
    failed_run _ _ _ h.0 (c.in-Failed.ensures.comes _ h.0 h.1) (went_flushed _ _ _ _ _ h.0 _ _ _ _ _ c.next.ensures.taken h.2)

pub returns-in-Long-clause-runs : goal.returns-in-Long-clause-runs
returns-in-Long-clause-runs g c =
    let h = c.loop-desk.invariant.heard in
    long_run _ _ _ h.0 (c.in-Long.ensures.comes _ h.0 h.1) (went_flushed _ _ _ _ _ h.0 _ _ _ _ _ c.next.ensures.taken h.2)

pub returns-in-Memory-clause-runs : goal.returns-in-Memory-clause-runs
returns-in-Memory-clause-runs g c =
    let h = c.loop-desk.invariant.heard in
    unheard_run _ _ _ h.0 Memory (c.in-Memory.ensures.comes _ h.0 h.1) (λ others. halted_nothing _ _ _ _ _ _ others _ _ _ _ (went_flushed _ _ _ _ _ h.0 _ _ _ _ _ c.next.ensures.taken h.2))

pub returns-in-Unwritten-clause-runs : goal.returns-in-Unwritten-clause-runs
returns-in-Unwritten-clause-runs g c =
    let h = c.loop-desk.invariant.heard in
    unheard_run _ _ _ h.0 Write (c.in-Unwritten.ensures.comes _ h.0 h.1) (λ others. halted_unwritten _ _ _ _ _ h.0 others _ _ _ _ _ c.next.ensures.taken h.2)
