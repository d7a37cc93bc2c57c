use Rattle.std.proofs.Common.{◌&&◌, not, ap, ◌∙◌}
use Rattle.std.specs.List.{list_any}
use Rattle.sp_locks.specs.Rows.{goes, stops}
use Rattle.sp_locks.specs.declared.row.Scope.TheVariants.{ShortLocks}
use Rattle.sp_locks.proofs.Blocking.{unblocked-is}
use Rattle.sp_locks.proofs.rows.is_open.Goals as goal

pub returns : goal.returns
returns c =
    ap (λ b. not b && not c.any_stops.result) c.any_short_lock.ensures
    ∙ ap (λ b. not (list_any (goes ShortLocks c.args.session) c.args.rows.now) && not b) (c.any_stops.ensures ∙ ap (λ h. list_any (stops h c.args.session c.args.mode) c.args.rows.now) c.holds-holds.ensures)
    ∙ ap (λ b. not (list_any (goes ShortLocks c.args.session) c.args.rows.now) && b) (unblocked-is c.args.session c.args.mode c.args.rows.now)
