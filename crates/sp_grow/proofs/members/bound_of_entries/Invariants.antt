use Rattle.std.proofs.Common.{◌≡◌, Some, take, map}
use Rattle.sp_rect.specs.Inside.{bound_of}
use Rattle.sp_grow.proofs.members.bound_of_entries.Given as goal

abbrev pub invariant-loop-i : goal.invariant-loop-i
invariant-loop-i l = bound_of (map (λ e. e.rect) (take l.i l.entries)) ≡ Some l.bound
