use Rattle.std.proofs.Common.{refl}
use Rattle.sp_disk.specs.declared.history.DiskCall.TheVariants.{Sync}
use Rattle.sp_disk.proofs.Steps.{reads_are, sync_settles, sync_leaves, sync_fails, on_ok, on_err, caused}
use Rattle.sp_disk.proofs.memory.MemDiskDisk.sync.Goals as goal

pub returns-clause-bytes : goal.returns-clause-bytes
returns-clause-bytes c = λ told. reads_are _ _ (Sync c.succeeds-made.result) c.in_ok-sync.ensures

pub returns-clause-settled : goal.returns-clause-settled
returns-clause-settled c = λ told. on_ok c.succeeds-made.result c.answer.result _ c.answer.ensures (λ made. sync_settles _ _ _ made c.in_ok-sync.ensures)

pub returns-clause-at_most : goal.returns-clause-at_most
returns-clause-at_most c = λ told. sync_leaves _ _ _ c.in_ok-sync.ensures

pub returns-clause-nothing : goal.returns-clause-nothing
returns-clause-nothing c = λ told. on_err c.succeeds-made.result c.answer.result _ c.answer.ensures (λ failed. sync_fails _ _ _ failed c.in_ok-sync.ensures)

pub returns-clause-cause : goal.returns-clause-cause
returns-clause-cause c = caused _ _ _ c.succeeds-made.result c.answer.result c.answer.result c.in_ok-sync.ensures refl c.answer.ensures (λ f. f)
