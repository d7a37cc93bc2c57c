use Rattle.std.proofs.Common.{◌≡◌, ◌∙◌, sym, ap, Bool, Option, Some, None, refl, ◌&&◌, not, true, false, nat_eq, ℕ, List}
use Rattle.std.specs.Prelude.{find}
use Rattle.sp_event.specs.declared.answer.Answer.{Answer}
use Rattle.sp_model.specs.Refusals.{first_holder, holds_latch, shares}
use Rattle.sp_model.specs.declared.session.Session.{Session}
use Rattle.sp_state.proofs.Standing.{held_by}
use Rattle.sp_state.proofs.holders.plan_latched.Goals as goal

-- whether the latch is shared is told by the stage
told : (shared shared' : Bool) (s : ℕ) (xs : List Session) (answer : Option Answer) → shared ≡ shared' → first_holder shared (λ (y : Session). not (nat_eq y.txn.session s)) xs ≡ answer → answer ≡ first_holder shared' (λ (y : Session). not (nat_eq y.txn.session s)) xs
told shared shared' s xs answer e h = sym (ap (λ b. first_holder b (λ (y : Session). not (nat_eq y.txn.session s)) xs) (sym e) ∙ h)

pub returns-in-Some : goal.returns-in-Some
returns-in-Some c = rw (c.in_ok-seat.was, c.session.ensures) (told c.shares.result (shares c.in_ok-seat.field-0.now.stage) c.args.session c.args.seats.now _ (c.shares.ensures ∙ ap shares c.stage.ensures) (held_by c.shares.result (λ (y : Session). not (nat_eq y.txn.session c.args.session)) c.args.seats.now (Some c.in-Some.holder.now) c.in-Some.ensures))

pub returns-in-None : goal.returns-in-None
returns-in-None c = rw c.in_ok-seat.was (told c.shares.result (shares c.in_ok-seat.field-0.now.stage) c.args.session c.args.seats.now None (c.shares.ensures ∙ ap shares c.stage.ensures) (held_by c.shares.result (λ (y : Session). not (nat_eq y.txn.session c.args.session)) c.args.seats.now None c.in-None.ensures))
