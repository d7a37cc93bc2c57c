use Rattle.std.proofs.Common.{◌≡◌, drop}
use Rattle.sp_rect.specs.Plane.{point}
use Rattle.sp_granule.specs.Descent.{first_child_at}
use Rattle.sp_granule.proofs.descent.child_at.Given as goal

abbrev pub invariant-loop-child : goal.invariant-loop-child
invariant-loop-child l = first_child_at (point l.p.x l.p.y) (drop l.child-index l.children) ≡ first_child_at (point l.p.x l.p.y) l.children
