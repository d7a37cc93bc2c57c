use Rattle.std.proofs.Common.{length}
use Rattle.sp_condense.proofs.rest.+take_below.Given as goal

abbrev pub decreases-take_below : goal.decreases-take_below
decreases-take_below l = length l.path.now
