use Rattle.std.proofs.Common.{◌≤◌, ◌+◌, List, ℕ, [], length}
use Rattle.sp_lines.specs.Taking.{HasTaken}
use Rattle.sp_drill.specs.Drilling.{Next}
use Rattle.sp_drill.specs.Hearing.{IsReady, Goes}
use Rattle.sp_drill.proofs.script.run.Given as goal

abbrev pub invariant-loop-driller : goal.invariant-loop-driller
invariant-loop-driller g l = record {
  heard : (lines : List (List ℕ)) × HasTaken (g.S.Source.left l.initial.source) (g.S.Source.left l.source) l.reader.chunk [] lines
      × Goes g.D.Disk.tells g.D.Disk.takes_memory g.D.Disk.faults g.D.Disk.moment g.D.Disk.images (Next.Tells []) (Next.Tells []) lines
      l.initial.driller.scribe l.initial.kernel (g.K.Sink.taken l.initial.sink) l.driller.scribe l.kernel (g.K.Sink.taken l.sink);
  ready : IsReady l.driller.scribe l.kernel.kernel;
  reads : g.S.Source.read_faults l.initial.source ≤ g.S.Source.read_faults l.source;
  writes : g.K.Sink.write_faults l.initial.sink ≤ g.K.Sink.write_faults l.sink;
}

abbrev pub decreases-loop-driller : goal.decreases-loop-driller
decreases-loop-driller g l = l.reader.chunk.room + length l.reader.chunk.bytes
