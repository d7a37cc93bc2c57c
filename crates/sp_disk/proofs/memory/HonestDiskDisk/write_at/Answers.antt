use Rattle.std.proofs.Common.{refl}
use Rattle.sp_disk.proofs.Steps.{write_now, written_now}
use Rattle.sp_disk.proofs.memory.HonestDiskDisk.write_at.Goals as goal

pub returns-clause-written : goal.returns-clause-written
returns-clause-written c = λ told. written_now _ _ _ _ _ refl c.in_ok-write.ensures.log

pub returns-clause-at_most : goal.returns-clause-at_most
returns-clause-at_most c = λ told file now. (write_now _ _ _ _ _ c.in_ok-write.ensures.log file).0 now

pub returns-clause-at_least : goal.returns-clause-at_least
returns-clause-at_least c = λ told short answered was file before torn. (write_now _ _ _ _ _ c.in_ok-write.ensures.log file).1 (was, before, torn)
