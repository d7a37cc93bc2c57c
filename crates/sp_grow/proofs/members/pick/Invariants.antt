use Rattle.std.proofs.Common.{◌≡◌, ◌++◌, drop}
use Rattle.sp_grow.specs.Members.{pick}
use Rattle.sp_grow.proofs.members.pick.Given as goal

abbrev pub invariant-loop-position : goal.invariant-loop-position
invariant-loop-position g l = l.picked.items ++ pick l.members (drop l.position-index l.positions) ≡ pick l.members l.positions
