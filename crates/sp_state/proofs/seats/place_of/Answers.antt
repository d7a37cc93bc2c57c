use Rattle.std.proofs.Common.{◌≡◌, Option, None, ℕ, subst, sym}
use Rattle.std.specs.Prelude.{IfSome, IfNone, slice_get}
use Rattle.sp_model.specs.State.{session_at}
use Rattle.sp_state.proofs.Standing.{found_at, found_none}
use Rattle.sp_state.proofs.seats.place_of.Goals as goal

pub returns-clause-found : goal.returns-clause-found
returns-clause-found c = rw c.position_of.ensures (found_at c.args.session c.args.seats.now)

pub returns-clause-none : goal.returns-clause-none
returns-clause-none c = rw c.position_of.ensures (found_none c.args.session c.args.seats.now)
