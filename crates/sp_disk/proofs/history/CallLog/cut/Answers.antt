use Rattle.sp_disk.specs.declared.history.DiskCall.TheVariants.{Cut}
use Rattle.sp_disk.proofs.Logs.{logged, cut_done, cut_not_done}
use Rattle.sp_disk.proofs.history.CallLog.cut.Goals as goal

pub invariant_of-self-then-made : goal.invariant_of-self-then-made
invariant_of-self-then-made c =
    logged _ _ _ _ _ (Cut c.args.len c.args.made) c.self.invariant c.in_ok-push.ensures.items (cut_done c.self.inside.bytes.items c.truncate.new.self.items c.args.len c.args.made c.if-made.true c.truncate.ensures.items)

pub invariant_of-self-else-made : goal.invariant_of-self-else-made
invariant_of-self-else-made c =
    logged _ _ _ _ _ (Cut c.args.len c.args.made) c.self.invariant c.in_ok-push.ensures.items (cut_not_done c.self.inside.bytes.items c.args.len c.args.made c.if-made.false)
