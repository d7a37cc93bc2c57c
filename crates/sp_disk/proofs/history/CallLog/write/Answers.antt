use Rattle.std.proofs.Common.{◌≡◌, rules}
use Rattle.sp_disk.specs.Files.{put}
use Rattle.sp_disk.specs.declared.history.DiskCall.TheVariants.{Write}
use Rattle.sp_disk.proofs.Logs.{logged, write_done, write_not_done}
use Rattle.sp_disk.proofs.history.CallLog.write.Goals as goal

pub invariant_of-self-then-not-made : goal.invariant_of-self-then-not-made
invariant_of-self-then-not-made c =
    logged _ _ _ _ _ (Write c.args.at c.from_vec-kept.result c.args.made) c.self.invariant c.in_ok-push.ensures.items (write_not_done c.self.inside.bytes.items c.from_vec-kept.result c.args.at c.args.made c.if-not-made.true)

pub invariant_of-self-else-is_err : goal.invariant_of-self-else-is_err
invariant_of-self-else-is_err c =
    let kept : c.from_vec-kept.result ≡ c.args.bytes.now = search rules in
    let now : c.overwrite.new.file.items ≡ put c.self.inside.bytes.items c.args.at c.args.bytes.now = search rules in
    logged _ _ _ _ _ (Write c.args.at c.from_vec-kept.result c.args.made) c.self.invariant c.in_ok-push.ensures.items (write_done c.self.inside.bytes.items c.overwrite.new.file.items c.from_vec-kept.result c.args.bytes.now c.args.at c.args.made c.if-not-made.false kept now)
