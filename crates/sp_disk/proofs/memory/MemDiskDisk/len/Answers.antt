use Rattle.std.proofs.Common.{refl, ◌∙◌, ap, length, ℕ, List}
use Rattle.sp_disk.specs.declared.disk.DiskError.TheVariants.{Fault}
use Rattle.sp_disk.specs.declared.history.DiskCall.TheVariants.{Look}
use Rattle.sp_disk.proofs.Steps.{reads_are, look_now, caused, failed_answer, not_failed}
use Rattle.sp_disk.proofs.memory.MemDiskDisk.len.Goals as goal

pub returns-in_err-answer-clause-bytes : goal.returns-in_err-answer-clause-bytes
returns-in_err-answer-clause-bytes c = λ told. reads_are _ _ (Look c.succeeds-made.result) c.in_ok-look.ensures

pub returns-in_err-answer-clause-stop : goal.returns-in_err-answer-clause-stop
returns-in_err-answer-clause-stop c = λ told. look_now _ _ _ c.in_ok-look.ensures

pub returns-in_err-answer-clause-cause : goal.returns-in_err-answer-clause-cause
returns-in_err-answer-clause-cause c = caused _ _ (Look c.succeeds-made.result) c.succeeds-made.result c.answer.result _ c.in_ok-look.ensures refl c.answer.ensures (λ f. failed_answer c.succeeds-made.result c.answer.result _ c.answer.ensures c.in_err-answer.was)

pub returns-clause-bytes : goal.returns-clause-bytes
returns-clause-bytes c = λ told. reads_are _ _ (Look c.succeeds-made.result) c.in_ok-look.ensures

pub returns-clause-stop : goal.returns-clause-stop
returns-clause-stop c = λ told. look_now _ _ _ c.in_ok-look.ensures

pub returns-clause-cause : goal.returns-clause-cause
returns-clause-cause c = caused _ _ (Look c.succeeds-made.result) c.succeeds-made.result c.answer.result _ c.in_ok-look.ensures refl c.answer.ensures (λ f. not_failed _ Fault _ f)

pub returns-clause-length : goal.returns-clause-length
returns-clause-length c = λ told. ap (λ (l : List ℕ). length l) (c.bytes.ensures ∙ reads_are _ _ (Look c.succeeds-made.result) c.in_ok-look.ensures)
