use Rattle.std.proofs.Common.{◌≡◌, ◌≤◌, []}
use Rattle.sp_text.specs.declared.form.Form.TheVariants.{Play}
use Rattle.sp_desk.specs.Course.{Course}
use Rattle.sp_desk.specs.Playing.{Turn, AreOver}
use Rattle.sp_desk.specs.Hearing.{place, Passes}
use Rattle.sp_desk.proofs.desk.Desk.close_all.Given as goal

abbrev pub invariant-loop-session : goal.invariant-loop-session
invariant-loop-session g l = record {
  passes : Passes Turn.Closing Turn.Closing [] (place l.initial.self.scribe.items l.initial.self.stalled.items l.initial.kernel.kernel (g.K.Sink.taken l.initial.sink)) (place l.self.scribe.items l.self.stalled.items l.kernel.kernel (g.K.Sink.taken l.sink));
  over : AreOver l.kernel.kernel l.session;
  form : l.self.scribe.form ≡ Play;
  course : Course g.D.Disk.tells g.D.Disk.takes_memory g.D.Disk.faults g.D.Disk.moment g.D.Disk.images l.initial.kernel l.kernel;
  later : g.K.Sink.write_faults l.initial.sink ≤ g.K.Sink.write_faults l.sink;
}
