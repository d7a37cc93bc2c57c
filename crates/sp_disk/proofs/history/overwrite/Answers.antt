use Rattle.std.proofs.Common.{rules}
use Rattle.sp_disk.proofs.Logs.{overwritten}
use Rattle.sp_disk.proofs.history.overwrite.Goals as goal

pub returns : goal.returns
returns c =
    let value = c.deref_mut.ensures.value in
    overwritten c.args.file.now.items c.args.bytes.now c.copy_from_slice.new.self c.reach.new.file.items c.deref_mut.result.now c.args.at c.reach.new.file.len c.copy_from_slice.ensures.after (search rules) (search rules) (search rules)
