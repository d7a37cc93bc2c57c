use Rattle.std.proofs.Common.{true, ◌∙◌, ap, length, ℕ, List, min, ◌-◌, ◌++◌, take, drop}
use Rattle.sp_disk.specs.declared.history.DiskCall.TheVariants.{Look}
use Rattle.sp_disk.proofs.Steps.{reads_are, look_now}
use Rattle.sp_disk.proofs.memory.HonestDiskDisk.read_at.Goals as goal

pub returns-clause-bytes : goal.returns-clause-bytes
returns-clause-bytes c = λ told. reads_are _ _ (Look true) c.in_ok-look.ensures

pub returns-clause-stop : goal.returns-clause-stop
returns-clause-stop c = λ told. look_now _ _ _ c.in_ok-look.ensures

pub returns-clause-count : goal.returns-clause-count
returns-clause-count c = λ told.
    let file = c.bytes.ensures ∙ reads_are _ _ (Look true) c.in_ok-look.ensures in
    c.copy_out.ensures.count ∙ ap (λ (l : List ℕ). min (length c.args.buf.now) (length l - c.args.at)) file

pub returns-clause-filled : goal.returns-clause-filled
returns-clause-filled c = λ told.
    let file = c.bytes.ensures ∙ reads_are _ _ (Look true) c.in_ok-look.ensures in
    c.copy_out.ensures.filled ∙ ap (λ (l : List ℕ). take c.copy_out.result (drop c.args.at l) ++ drop c.copy_out.result c.args.buf.now) file
