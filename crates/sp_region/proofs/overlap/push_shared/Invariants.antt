use Rattle.std.proofs.Common.{take}
use Rattle.sp_region.specs.Cut.{IsShared}
use Rattle.sp_region.proofs.overlap.push_shared.Given as goal

abbrev pub invariant-sharing : goal.invariant-sharing
invariant-sharing l = IsShared l.rect (take l.other-index l.others) l.fn.pending.items l.pending.items
