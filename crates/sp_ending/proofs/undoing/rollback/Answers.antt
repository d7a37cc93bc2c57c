use Rattle.std.proofs.Common.{sym, subst}
use Rattle.sp_event.specs.declared.event.Event.TheVariants.{Rollback}
use Rattle.sp_event.specs.declared.answer.Answer.TheVariants.{RolledBack}
use Rattle.sp_model.specs.State.{Kernel}
use Rattle.sp_model.specs.Stepped.{Does}
use Rattle.sp_model.specs.Removal.{IsTakenOut}
use Rattle.sp_state.specs.Held.{kernel_of}
use Rattle.sp_ending.proofs.Departures.{found-there}
use Rattle.sp_ending.proofs.undoing.rollback.Goals as goal

pub returns-in-Some-clause-done : goal.returns-in-Some-clause-done
returns-in-Some-clause-done c =
    let s = c.args.state.now in
    let x = found-there c.args.session c.in-Some.at s.seats.items c.as_slice.result.now c.as_slice.ensures.value c.in-Some.ensures.found c.in-Some.ensures.bound in
    subst (λ (after : Kernel). Does IsTakenOut (kernel_of s) (Rollback c.args.session) RolledBack after) (sym (c.roll_back.ensures.done x.0 x.1)) (Does.RollsBack c.args.session x.0 x.2)
