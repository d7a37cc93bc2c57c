use Rattle.std.proofs.Common.{refl}
use Rattle.sp_disk.specs.declared.history.DiskCall.TheVariants.{Look}
use Rattle.sp_disk.proofs.Logs.{logged}
use Rattle.sp_disk.proofs.history.CallLog.look.Goals as goal

pub invariant_of-self-2 : goal.invariant_of-self-2
invariant_of-self-2 c = logged _ _ _ _ _ (Look c.args.made) c.self.invariant c.in_ok-push.ensures.items refl
