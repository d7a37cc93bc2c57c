use Rattle.std.proofs.Common.{◌∙◌, sym, ap}
use Rattle.std.specs.List.{list_any}
use Rattle.sp_locks.specs.Rows.{goes}
use Rattle.sp_locks.specs.declared.row.Scope.TheVariants.{ShortLocks}
use Rattle.sp_requests.proofs.Shorts.{blocking-same, blocking-of_bare}
use Rattle.sp_requests.proofs.requesting.blockers.Goals as goal

pub returns-then-any_short_lock-clause-found : goal.returns-then-any_short_lock-clause-found
returns-then-any_short_lock-clause-found c = blocking-of_bare c.args.session c.args.need.now c.args.table.now c.in_ok-bare.bare c.blockers.result c.in_ok-bare.ensures c.blockers.ensures

pub returns-clause-found : goal.returns-clause-found
returns-clause-found c =
    rw (blocking-same c.args.session c.args.need.now c.args.table.now c.on.ensures.sound (sym (c.any_short_lock.ensures ∙ ap (list_any (goes ShortLocks c.args.session)) c.on.ensures.rows) ∙ c.if-any_short_lock.false)) c.blockers-2.ensures
