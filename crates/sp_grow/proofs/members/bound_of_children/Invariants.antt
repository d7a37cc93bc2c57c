use Rattle.std.proofs.Common.{◌≡◌, Some, take, map}
use Rattle.sp_rect.specs.Inside.{bound_of}
use Rattle.sp_grow.proofs.members.bound_of_children.Given as goal

abbrev pub invariant-loop-i : goal.invariant-loop-i
invariant-loop-i l = bound_of (map (λ c. c.rect) (take l.i l.children)) ≡ Some l.bound
