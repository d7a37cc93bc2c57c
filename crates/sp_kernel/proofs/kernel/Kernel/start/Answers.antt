use Rattle.std.proofs.Common.{Bool, IsTrue, subst}
use Rattle.sp_state.specs.Held.{kernel_of}
use Rattle.sp_kernel.proofs.Opening.{started_whole}
use Rattle.sp_kernel.proofs.kernel.Kernel.start.Goals as goal

pub invariant_of-result : goal.invariant_of-result
invariant_of-result g c =
    let told = c.in-Ok.ensures in
    record {
      whole = started_whole c.args.shape c.in-Ok.attached.1 (kernel_of c.in-Ok-open_state.state) c.in-Ok.attached.0.work _ _ _ _ c.requires told.held.0 told.held.1 c.in-Ok-open_state.ensures.opened
          told.fresh.0 told.fresh.1 told.fresh.2 told.fresh.3 (λ t. told.attached (subst (λ (b : Bool). IsTrue b) told.tells t));
      fits = c.in-Ok-open_state.ensures.fits;
    }

pub returns-in-Err-open_state-clause-crash : goal.returns-in-Err-open_state-clause-crash
returns-in-Err-open_state-clause-crash g c = λ t. rw c.detach.ensures (c.in-Ok.ensures.crash t)

pub returns-in-Err-open_state-clause-kinds : goal.returns-in-Err-open_state-clause-kinds
returns-in-Err-open_state-clause-kinds g c = λ t. rw c.detach.ensures (c.in-Ok.ensures.kinds t)
