use Rattle.std.proofs.Common.{◌≤◌, ◌+◌, length}
use Rattle.sp_waits.specs.Levels.{AreLevels}
use Rattle.sp_waits.proofs.Levelling.{left}
use Rattle.sp_waits.proofs.levels.search.Given as goal

abbrev pub invariant-back : goal.invariant-back
invariant-back l = AreLevels l.graph l.session l.steps l.reached.items × (l.steps + left l.reached.items l.graph ≤ length l.graph)

abbrev pub decreases-back : goal.decreases-back
decreases-back l = left l.reached.items l.graph
