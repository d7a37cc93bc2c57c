use Rattle.std.proofs.Common.{◌≡◌, ◌≤◌, length, filter, take}
use Rattle.sp_model.specs.State.{is_active}
use Rattle.sp_state.proofs.seats.count_open.Given as goal

abbrev pub invariant-all : goal.invariant-all
invariant-all l = l.open ≡ length (filter is_active (take l.seat-index l.seats))
