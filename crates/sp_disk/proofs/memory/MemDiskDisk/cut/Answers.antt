use Rattle.std.proofs.Common.{refl}
use Rattle.sp_disk.proofs.Steps.{cut_now, cut_done_now, on_ok, caused}
use Rattle.sp_disk.proofs.memory.MemDiskDisk.cut.Goals as goal

pub returns-clause-cut : goal.returns-clause-cut
returns-clause-cut c = λ told. on_ok c.succeeds-made.result c.answer.result _ c.answer.ensures (λ made. cut_done_now _ _ _ _ made c.in_ok-cut.ensures)

pub returns-clause-at_most : goal.returns-clause-at_most
returns-clause-at_most c = λ told file now. (cut_now _ _ _ _ c.in_ok-cut.ensures file).0 now

pub returns-clause-at_least : goal.returns-clause-at_least
returns-clause-at_least c = λ told answered was file before cut. (cut_now _ _ _ _ c.in_ok-cut.ensures file).1 (was, before, cut)

pub returns-clause-cause : goal.returns-clause-cause
returns-clause-cause c = caused _ _ _ c.succeeds-made.result c.answer.result c.answer.result c.in_ok-cut.ensures refl c.answer.ensures (λ f. f)
