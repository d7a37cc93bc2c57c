use Rattle.std.proofs.Common.{◌≡◌, ◌∙◌, sym}
use Rattle.std.specs.Prelude.{nat_lt}
use Rattle.sp_model.specs.declared.session.Session.{Session}
use Rattle.sp_state.proofs.Standing.{position-none}
use Rattle.sp_state.proofs.seats.place_for.Goals as goal

pub returns-in-None-clause-place : goal.returns-in-None-clause-place
returns-in-None-clause-place c = position-none (λ (y : Session). nat_lt c.args.session y.txn.session) c.args.seats.now (sym c.in-None.ensures)
