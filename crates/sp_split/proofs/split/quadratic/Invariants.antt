use Rattle.sp_split.proofs.Forming.{State}
use Rattle.sp_split.proofs.split.quadratic.Given as goal

abbrev pub invariant-place : goal.invariant-place
invariant-place l = State l.rects l.min l.first.members.items l.second.members.items l.first.bound l.second.bound l.placed.items l.remaining

abbrev pub decreases-place : goal.decreases-place
decreases-place l = l.remaining
