use Rattle.std.proofs.Common.{◌≡◌, ◌++◌, drop}
use Rattle.sp_waits.specs.Levels.{level}
use Rattle.sp_waits.proofs.levels.next_level.Given as goal

abbrev pub invariant-loop-node : goal.invariant-loop-node
invariant-loop-node l = l.found.items ++ level l.steps l.reached (drop l.node-index l.graph) ≡ level l.steps l.reached l.graph
