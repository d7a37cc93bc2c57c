use Rattle.std.proofs.Common.{◌≡◌, ◌∙◌, sym, ap}
use Rattle.std.specs.List.{insert, position_or_len}
use Rattle.std.specs.Prelude.{nat_lt}
use Rattle.sp_model.specs.declared.session.Session.{Session}
use Rattle.sp_state.proofs.Standing.{with-insert}
use Rattle.sp_state.proofs.seats.admit.Goals as goal

pub returns : goal.returns
returns c = c.in_ok-insert.ensures.items ∙ rw (c.place_for-at.ensures.place, c.session.ensures, c.as_slice.ensures.value) (sym (with-insert c.args.seat c.args.seats.now.items))
