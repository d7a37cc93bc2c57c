use Rattle.std.proofs.Common.{◌≡◌}
use Rattle.sp_split.specs.Split.{preference}
use Rattle.sp_split.proofs.Next.{IsBest}
use Rattle.sp_split.proofs.pick.pick_next.Given as goal

abbrev pub invariant-loop-i : goal.invariant-loop-i
invariant-loop-i l = IsBest l.rects l.first l.second l.placed l.i l.best × (l.most ≡ preference l.rects l.first l.second l.best)
