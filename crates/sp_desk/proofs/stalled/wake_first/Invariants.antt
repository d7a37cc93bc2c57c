use Rattle.std.proofs.Common.{◌≡◌}
use Rattle.sp_desk.specs.Course.{Course}
use Rattle.sp_desk.specs.Waiting.{WaitBelow}
use Rattle.sp_desk.proofs.stalled.wake_first.Given as goal

abbrev pub invariant-loop-at : goal.invariant-loop-at
invariant-loop-at g l = record {
  first : WaitBelow l.initial.kernel.kernel l.stalled l.at;
  same : l.kernel.kernel ≡ l.initial.kernel.kernel;
  course : Course g.D.Disk.tells g.D.Disk.takes_memory g.D.Disk.faults g.D.Disk.moment g.D.Disk.images l.initial.kernel l.kernel;
}
