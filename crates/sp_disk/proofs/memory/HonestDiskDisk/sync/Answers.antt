use Rattle.std.proofs.Common.{true, refl}
use Rattle.sp_disk.specs.declared.history.DiskCall.TheVariants.{Sync}
use Rattle.sp_disk.proofs.Steps.{reads_are, sync_settles, sync_leaves}
use Rattle.sp_disk.proofs.memory.HonestDiskDisk.sync.Goals as goal

pub returns-clause-bytes : goal.returns-clause-bytes
returns-clause-bytes c = λ told. reads_are _ _ (Sync true) c.in_ok-sync.ensures

pub returns-clause-settled : goal.returns-clause-settled
returns-clause-settled c = λ told. sync_settles _ _ _ refl c.in_ok-sync.ensures

pub returns-clause-at_most : goal.returns-clause-at_most
returns-clause-at_most c = λ told. sync_leaves _ _ _ c.in_ok-sync.ensures
