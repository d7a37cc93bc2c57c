use Rattle.std.proofs.Common.{refl, ap}
use Rattle.sp_disk.specs.History.{reads_of}
use Rattle.sp_runs.proofs.Emptiness.{started_empty}
use Rattle.sp_runs.proofs.in_memory.start_in_memory.Goals as goal

pub returns-in-Ok : goal.returns-in-Ok
returns-in-Ok c = started_empty _ c.args.shape c.in-Ok.kernel.kernel (ap reads_of c.in_ok-disk.ensures) (c.in-Ok.ensures.started refl)
