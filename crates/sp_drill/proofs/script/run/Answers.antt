use Rattle.std.proofs.Common.{◌++◌, ◌∷◌, [], arith}
use Rattle.sp_lines.specs.Taking.{line_of}
use Rattle.sp_lines.specs.declared.fault.Fault.TheVariants.{Write, Memory}
use Rattle.sp_lines.proofs.Taking.{taken_none}
use Rattle.sp_lines.proofs.Reading.{ended_run, failed_run, long_run, faulty_end, faulty_run, unheard_run}
use Rattle.sp_drill.specs.Drilling.{Next}
use Rattle.sp_drill.proofs.Joining.{goes_none, goes_further, stops_further, stops_more, stops_unheard, goes_flushed, stops_unwritten}
use Rattle.sp_drill.proofs.script.run.Goals as goal

pub loop-driller-init : goal.loop-driller-init
loop-driller-init g c = record {
  heard = ([], taken_none _ _ c.requires.unread c.requires.room, goes_none g.D.Disk.tells g.D.Disk.takes_memory g.D.Disk.faults g.D.Disk.moment g.D.Disk.images (Next.Tells []) _ _ _);
  ready = c.requires.ready;
  reads = omega arith;
  writes = omega arith;
}

pub loop-driller-preserved : goal.loop-driller-preserved
loop-driller-preserved g c =
    let h = c.loop-driller.invariant.heard in
    let line = line_of c.next.new.self.ended c.next.new.self.line in
    record {
      heard = (
        h.0 ++ line ∷ [],
        c.in-Line.ensures.comes _ h.0 h.1,
        goes_further g.D.Disk.tells g.D.Disk.takes_memory g.D.Disk.faults g.D.Disk.moment g.D.Disk.images (Next.Tells []) h.0 _ line _ _ _ _ _ _ _ _ _ c.line.ensures (goes_flushed g.D.Disk.tells g.D.Disk.takes_memory g.D.Disk.faults g.D.Disk.moment g.D.Disk.images (Next.Tells []) h.0 _ _ _ _ _ _ _ c.next.ensures.taken h.2) c.in_default.ensures.goes,
      );
      ready = c.hear_line.ensures.ready;
      reads = omega (arith, c.loop-driller.invariant.reads, c.next.ensures.later);
      writes = omega (arith, c.loop-driller.invariant.writes, c.next.ensures.counts, c.hear_line.ensures.later);
    }

pub returns-in-Err-clause-runs : goal.returns-in-Err-clause-runs
returns-in-Err-clause-runs g c =
    let h = c.loop-driller.invariant.heard in
    let line = line_of c.next.new.self.ended c.next.new.self.line in
    let stops = stops_further g.D.Disk.tells g.D.Disk.takes_memory g.D.Disk.faults g.D.Disk.moment g.D.Disk.images (Next.Tells []) _ h.0 _ line _ _ _ _ _ _ _ _ _ c.line.ensures (goes_flushed g.D.Disk.tells g.D.Disk.takes_memory g.D.Disk.faults g.D.Disk.moment g.D.Disk.images (Next.Tells []) h.0 _ _ _ _ _ _ _ c.next.ensures.taken h.2) c.in-Err.ensures.stops in
    faulty_run _ _ _ (h.0 ++ line ∷ []) _ _ _ c.end_of.ensures _ _ (c.in-Line.ensures.comes _ h.0 h.1) (λ others. stops_more g.D.Disk.tells g.D.Disk.takes_memory g.D.Disk.faults g.D.Disk.moment g.D.Disk.images (Next.Tells []) _ _ others _ _ _ _ _ _ stops)

pub returns-in-Ok-clause-runs : goal.returns-in-Ok-clause-runs
returns-in-Ok-clause-runs g c =
    let h = c.loop-driller.invariant.heard in
    let line = line_of c.next.new.self.ended c.next.new.self.line in
    ended_run _ _ _ (h.0 ++ line ∷ []) (c.in-Last.ensures.comes _ h.0 h.1)
    (goes_further g.D.Disk.tells g.D.Disk.takes_memory g.D.Disk.faults g.D.Disk.moment g.D.Disk.images (Next.Tells []) h.0 _ line _ _ _ _ _ _ _ _ _ c.line-in-Last.ensures (goes_flushed g.D.Disk.tells g.D.Disk.takes_memory g.D.Disk.faults g.D.Disk.moment g.D.Disk.images (Next.Tells []) h.0 _ _ _ _ _ _ _ c.next.ensures.taken h.2) c.in-Ok.ensures.goes)

pub returns-in-Err-hear_line-clause-runs : goal.returns-in-Err-hear_line-clause-runs
returns-in-Err-hear_line-clause-runs g c =
    let h = c.loop-driller.invariant.heard in
    let line = line_of c.next.new.self.ended c.next.new.self.line in
    faulty_end _ _ _ (h.0 ++ line ∷ []) _ _ _ c.end_of-in-Err-hear_line.ensures (c.in-Last.ensures.comes _ h.0 h.1)
    (stops_further g.D.Disk.tells g.D.Disk.takes_memory g.D.Disk.faults g.D.Disk.moment g.D.Disk.images (Next.Tells []) _ h.0 _ line _ _ _ _ _ _ _ _ _ c.line-in-Last.ensures (goes_flushed g.D.Disk.tells g.D.Disk.takes_memory g.D.Disk.faults g.D.Disk.moment g.D.Disk.images (Next.Tells []) h.0 _ _ _ _ _ _ _ c.next.ensures.taken h.2) c.in-Err-hear_line.ensures.stops)

pub returns-in-End-clause-runs : goal.returns-in-End-clause-runs
returns-in-End-clause-runs g c =
    let h = c.loop-driller.invariant.heard in
    ended_run _ _ _ h.0 (c.in-End.ensures.comes _ h.0 h.1) (goes_flushed g.D.Disk.tells g.D.Disk.takes_memory g.D.Disk.faults g.D.Disk.moment g.D.Disk.images (Next.Tells []) h.0 _ _ _ _ _ _ _ c.next.ensures.taken h.2)

pub returns-in-Failed-clause-runs : goal.returns-in-Failed-clause-runs
returns-in-Failed-clause-runs g c =
    let h = c.loop-driller.invariant.heard in
    failed_run _ _ _ h.0 (c.in-Failed.ensures.comes _ h.0 h.1) (goes_flushed g.D.Disk.tells g.D.Disk.takes_memory g.D.Disk.faults g.D.Disk.moment g.D.Disk.images (Next.Tells []) h.0 _ _ _ _ _ _ _ c.next.ensures.taken h.2)

pub returns-in-Long-clause-runs : goal.returns-in-Long-clause-runs
returns-in-Long-clause-runs g c =
    let h = c.loop-driller.invariant.heard in
    long_run _ _ _ h.0 (c.in-Long.ensures.comes _ h.0 h.1) (goes_flushed g.D.Disk.tells g.D.Disk.takes_memory g.D.Disk.faults g.D.Disk.moment g.D.Disk.images (Next.Tells []) h.0 _ _ _ _ _ _ _ c.next.ensures.taken h.2)

pub returns-in-Memory-clause-runs : goal.returns-in-Memory-clause-runs
returns-in-Memory-clause-runs g c =
    let h = c.loop-driller.invariant.heard in
    unheard_run _ _ _ h.0 Memory (c.in-Memory.ensures.comes _ h.0 h.1) (λ others. stops_unheard g.D.Disk.tells g.D.Disk.takes_memory g.D.Disk.faults g.D.Disk.moment g.D.Disk.images (Next.Tells []) h.0 others _ _ _ _ _ _ (goes_flushed g.D.Disk.tells g.D.Disk.takes_memory g.D.Disk.faults g.D.Disk.moment g.D.Disk.images (Next.Tells []) h.0 _ _ _ _ _ _ _ c.next.ensures.taken h.2))

pub returns-in-Unwritten-clause-runs : goal.returns-in-Unwritten-clause-runs
returns-in-Unwritten-clause-runs g c =
    let h = c.loop-driller.invariant.heard in
    unheard_run _ _ _ h.0 Write (c.in-Unwritten.ensures.comes _ h.0 h.1) (λ others. stops_unwritten g.D.Disk.tells g.D.Disk.takes_memory g.D.Disk.faults g.D.Disk.moment g.D.Disk.images (Next.Tells []) h.0 others _ _ _ _ _ _ _ c.next.ensures.taken h.2)
