use Rattle.std.proofs.Common.{◌≡◌, ◌||◌, take}
use Rattle.sp_rect.specs.Plane.{Point}
use Rattle.sp_region.specs.Region.{covered}
use Rattle.sp_needs.proofs.gained.push_all.Given as goal

abbrev pub invariant-loop-rect : goal.invariant-loop-rect
invariant-loop-rect l = (p : Point) → covered l.rects p ≡ (covered l.fn.rects p || covered (take l.rect-index l.more) p)
