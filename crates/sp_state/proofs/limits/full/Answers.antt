use Rattle.std.proofs.Common.{◌≡◌, ◌∙◌, sym, ap}
use Rattle.sp_state.proofs.limits.full.Goals as goal

pub returns-in_ok-seat-in-Start : goal.returns-in_ok-seat-in-Start
returns-in_ok-seat-in-Start c = rw (c.in-Start.is, c.in_ok-seat-in-Start.was) (c.full_start.ensures c.in-Start.field-0 c.in-Start.field-1)
