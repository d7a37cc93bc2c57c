use Rattle.std.proofs.Common.{true, ◌∙◌, ap, length, ℕ, List}
use Rattle.sp_disk.specs.declared.history.DiskCall.TheVariants.{Look}
use Rattle.sp_disk.proofs.Steps.{reads_are, look_now}
use Rattle.sp_disk.proofs.memory.HonestDiskDisk.len.Goals as goal

pub returns-clause-bytes : goal.returns-clause-bytes
returns-clause-bytes c = λ told. reads_are _ _ (Look true) c.in_ok-look.ensures

pub returns-clause-stop : goal.returns-clause-stop
returns-clause-stop c = λ told. look_now _ _ _ c.in_ok-look.ensures

pub returns-clause-length : goal.returns-clause-length
returns-clause-length c = λ told. ap (λ (l : List ℕ). length l) (c.bytes.ensures ∙ reads_are _ _ (Look true) c.in_ok-look.ensures)
