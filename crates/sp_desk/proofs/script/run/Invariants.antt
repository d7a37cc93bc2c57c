use Rattle.std.proofs.Common.{◌≡◌, false, ◌≤◌, ◌+◌, List, ℕ, [], length}
use Rattle.sp_text.specs.declared.form.Form.TheVariants.{Play}
use Rattle.sp_lines.specs.Taking.{HasTaken}
use Rattle.sp_desk.specs.Hearing.{place, Went}
use Rattle.sp_desk.proofs.script.run.Given as goal

abbrev pub invariant-loop-desk : goal.invariant-loop-desk
invariant-loop-desk g l = record {
  heard : (lines : List (List ℕ)) × HasTaken (g.S.Source.left l.initial.source) (g.S.Source.left l.source) l.reader.chunk [] lines
      × Went g.D.Disk.tells g.D.Disk.takes_memory g.D.Disk.faults g.D.Disk.moment g.D.Disk.images false lines
      (place l.initial.desk.scribe.items l.initial.desk.stalled.items l.initial.kernel.kernel (g.K.Sink.taken l.initial.sink)) l.initial.kernel
      (place l.desk.scribe.items l.desk.stalled.items l.kernel.kernel (g.K.Sink.taken l.sink)) l.kernel;
  form : l.desk.scribe.form ≡ Play;
  reads : g.S.Source.read_faults l.initial.source ≤ g.S.Source.read_faults l.source;
  writes : g.K.Sink.write_faults l.initial.sink ≤ g.K.Sink.write_faults l.sink;
}

abbrev pub decreases-loop-desk : goal.decreases-loop-desk
decreases-loop-desk g l = l.reader.chunk.room + length l.reader.chunk.bytes
