use Rattle.std.proofs.Common.{◌≡◌, ◌≤◌, ℕ, Bool, List, length, filter, take, arith}
use Rattle.std.specs.List.{count_by}
use Rattle.std.proofs.lemmas.List.Sums.{length-filter, count_by-le-length}
use Rattle.std.proofs.lemmas.List.{length-take}
use Rattle.sp_model.specs.declared.session.Session.{Session}
use Rattle.sp_model.specs.State.{is_active}
use Rattle.sp_state.proofs.seats.count_open.Goals as goal

-- no more are counted than were looked at
few : (xs : List Session) (i : ℕ) → length (filter is_active (take i xs)) ≤ i
few xs i = let a = length-filter is_active (take i xs) in let b = count_by-le-length is_active (take i xs) in let d = length-take i xs in omega (arith, a, b, d)

pub overflow_add-open : goal.overflow_add-open
overflow_add-open c = let h = few c.args.seats.now c.all.seat-index in let e : c.all.open ≡ length (filter is_active (take c.all.seat-index c.args.seats.now)) = c.all.invariant in omega (arith, h, e)
