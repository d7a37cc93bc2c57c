use Rattle.std.proofs.Common.{◌≤◌, [], drop}
use Rattle.sp_drill.specs.Drilling.{Next}
use Rattle.sp_drill.specs.Hearing.{IsReady, Goes}
use Rattle.sp_drill.proofs.driller.Driller.tell_each.Given as goal

abbrev pub invariant-loop-session : goal.invariant-loop-session
invariant-loop-session g l = record {
  ready : IsReady l.self.scribe l.kernel.kernel;
  goes : Goes g.D.Disk.tells g.D.Disk.takes_memory g.D.Disk.faults g.D.Disk.moment g.D.Disk.images (Next.Tells l.batch) (Next.Tells (drop l.session-index l.batch)) []
      l.initial.self.scribe l.initial.kernel (g.K.Sink.taken l.initial.sink) l.self.scribe l.kernel (g.K.Sink.taken l.sink);
  later : g.K.Sink.write_faults l.initial.sink ≤ g.K.Sink.write_faults l.sink;
}
