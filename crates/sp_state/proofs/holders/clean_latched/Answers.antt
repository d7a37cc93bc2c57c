use Rattle.std.proofs.Common.{◌≡◌, ◌∙◌, sym, ap, Option, Some, None, refl, ◌&&◌, not, true, false, nat_eq}
use Rattle.std.specs.Prelude.{find}
use Rattle.sp_model.specs.Refusals.{holds_latch}
use Rattle.sp_model.specs.declared.session.Session.{Session}
use Rattle.sp_state.proofs.Standing.{held_by}
use Rattle.sp_state.proofs.holders.clean_latched.Goals as goal

pub returns-in-Some : goal.returns-in-Some
returns-in-Some c = rw c.session.ensures (sym (held_by false (λ (y : Session). true) c.args.seats.now (Some c.in-Some.holder.now) c.in-Some.ensures))

pub returns-in-None : goal.returns-in-None
returns-in-None c = sym (held_by false (λ (y : Session). true) c.args.seats.now None c.in-None.ensures)
