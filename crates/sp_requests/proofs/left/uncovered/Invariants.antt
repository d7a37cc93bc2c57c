use Rattle.std.proofs.Common.{◌≡◌, filter, take, not}
use Rattle.sp_model.specs.Plans.{is_covered}
use Rattle.sp_requests.proofs.left.uncovered.Given as goal

abbrev pub invariant-short : goal.invariant-short
invariant-short l = l.left.items ≡ filter (λ need. not (is_covered l.commit need)) (take l.need-index l.short)
