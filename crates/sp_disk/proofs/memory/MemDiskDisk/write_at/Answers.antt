use Rattle.std.proofs.Common.{refl}
use Rattle.sp_disk.proofs.Steps.{write_now, written_now, on_ok, caused}
use Rattle.sp_disk.proofs.memory.MemDiskDisk.write_at.Goals as goal

pub returns-clause-written : goal.returns-clause-written
returns-clause-written c = λ told. on_ok c.succeeds-made.result c.answer.result _ c.answer.ensures (λ made. written_now _ _ _ _ _ made c.in_ok-write.ensures.log)

pub returns-clause-at_most : goal.returns-clause-at_most
returns-clause-at_most c = λ told file now. (write_now _ _ _ _ _ c.in_ok-write.ensures.log file).0 now

pub returns-clause-at_least : goal.returns-clause-at_least
returns-clause-at_least c = λ told short answered was file before torn. (write_now _ _ _ _ _ c.in_ok-write.ensures.log file).1 (was, before, torn)

pub returns-clause-cause : goal.returns-clause-cause
returns-clause-cause c = caused _ _ _ c.succeeds-made.result c.answer.result c.answer.result c.in_ok-write.ensures.log refl c.answer.ensures (λ f. f)
