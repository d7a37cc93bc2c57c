use Rattle.sp_desk.specs.Course.{Course}
use Rattle.sp_desk.specs.Cleaning.{Cleans}
use Rattle.sp_desk.proofs.cleaning.clean.Given as goal

abbrev pub invariant-loop : goal.invariant-loop
invariant-loop g l = record {
  cleans : Cleans l.initial.kernel.kernel l.counter l.kernel.kernel;
  course : Course g.D.Disk.tells g.D.Disk.takes_memory g.D.Disk.faults g.D.Disk.moment g.D.Disk.images l.initial.kernel l.kernel;
}
