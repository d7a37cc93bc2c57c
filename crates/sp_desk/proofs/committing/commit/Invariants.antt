use Rattle.sp_desk.specs.Course.{Course}
use Rattle.sp_desk.specs.Committing.{Queues}
use Rattle.sp_desk.proofs.committing.commit.Given as goal

abbrev pub invariant-loop : goal.invariant-loop
invariant-loop g l = record {
  queues : Queues l.session l.initial.kernel.kernel l.kernel.kernel;
  course : Course g.D.Disk.tells g.D.Disk.takes_memory g.D.Disk.faults g.D.Disk.moment g.D.Disk.images l.initial.kernel l.kernel;
}
