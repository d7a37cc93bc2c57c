use Rattle.std.proofs.Common.{◌≡◌, ◌≤◌}
use Rattle.sp_rect.specs.Plane.{Point}
use Rattle.sp_region.specs.Cut.{times_left, burden}
use Rattle.sp_region.proofs.pieces.next_left.Given as goal

abbrev pub invariant-cutting : goal.invariant-cutting
invariant-cutting l = record {
  same : (p : Point) → times_left l.others l.fn.pending.items p ≡ times_left l.others l.pending.items p;
  less : burden l.others l.pending.items ≤ burden l.others l.fn.pending.items;
}

abbrev pub decreases-cutting : goal.decreases-cutting
decreases-cutting l = burden l.others l.pending.items
