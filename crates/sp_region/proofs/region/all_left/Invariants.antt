use Rattle.std.proofs.Common.{◌≡◌, ◌+◌}
use Rattle.std.specs.List.{count_by}
use Rattle.sp_rect.specs.Plane.{Point, holds}
use Rattle.sp_region.specs.Cut.{times_left, burden}
use Rattle.sp_region.proofs.region.all_left.Given as goal

abbrev pub invariant-taking : goal.invariant-taking
invariant-taking l = (p : Point) → count_by (λ r. holds r p) l.left + times_left l.others l.pending.items p ≡ times_left l.others l.fn.pending.items p

abbrev pub decreases-taking : goal.decreases-taking
decreases-taking l = burden l.others l.pending.items
