use Rattle.std.proofs.Common.{refl}
use Rattle.sp_disk.proofs.Steps.{cut_now, cut_done_now}
use Rattle.sp_disk.proofs.memory.HonestDiskDisk.cut.Goals as goal

pub returns-clause-cut : goal.returns-clause-cut
returns-clause-cut c = λ told. cut_done_now _ _ _ _ refl c.in_ok-cut.ensures

pub returns-clause-at_most : goal.returns-clause-at_most
returns-clause-at_most c = λ told file now. (cut_now _ _ _ _ c.in_ok-cut.ensures file).0 now

pub returns-clause-at_least : goal.returns-clause-at_least
returns-clause-at_least c = λ told answered was file before cut. (cut_now _ _ _ _ c.in_ok-cut.ensures file).1 (was, before, cut)
