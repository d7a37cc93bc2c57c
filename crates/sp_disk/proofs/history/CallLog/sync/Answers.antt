use Rattle.std.proofs.Common.{refl}
use Rattle.sp_disk.specs.declared.history.DiskCall.TheVariants.{Sync}
use Rattle.sp_disk.proofs.Logs.{logged}
use Rattle.sp_disk.proofs.history.CallLog.sync.Goals as goal

pub invariant_of-self-2 : goal.invariant_of-self-2
invariant_of-self-2 c = logged _ _ _ _ _ (Sync c.args.made) c.self.invariant c.in_ok-push.ensures.items refl
