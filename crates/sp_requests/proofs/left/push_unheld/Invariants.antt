use Rattle.std.proofs.Common.{◌≡◌, ◌++◌, filter, take, not}
use Rattle.sp_model.specs.Plans.{is_held}
use Rattle.sp_requests.proofs.left.push_unheld.Given as goal

abbrev pub invariant-needs : goal.invariant-needs
invariant-needs l = l.left.items ≡ l.fn.left.items ++ filter (λ need. not (is_held l.locks l.session need)) (take l.need-index l.needs)
