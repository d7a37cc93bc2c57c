use Rattle.sp_desk.specs.Course.{Course}
use Rattle.sp_desk.specs.Committing.{Writes}
use Rattle.sp_desk.proofs.committing.write_batch.Given as goal

abbrev pub invariant-loop : goal.invariant-loop
invariant-loop g l = record {
  writes : Writes l.initial.kernel.kernel l.kernel.kernel;
  course : Course g.D.Disk.tells g.D.Disk.takes_memory g.D.Disk.faults g.D.Disk.moment g.D.Disk.images l.initial.kernel l.kernel;
}
