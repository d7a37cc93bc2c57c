use Rattle.sp_desk.specs.Course.{Course}
use Rattle.sp_desk.specs.Points.{ahead}
use Rattle.sp_desk.specs.Working.{Reaches}
use Rattle.sp_desk.proofs.working.proceed.Given as goal

abbrev pub invariant-loop-next : goal.invariant-loop-next
invariant-loop-next g l = record {
  reaches : Reaches l.session l.initial.point l.initial.kernel.kernel l.point l.kernel.kernel;
  course : Course g.D.Disk.tells g.D.Disk.takes_memory g.D.Disk.faults g.D.Disk.moment g.D.Disk.images l.initial.kernel l.kernel;
}

abbrev pub decreases-loop-next : goal.decreases-loop-next
decreases-loop-next g l = ahead l.point
