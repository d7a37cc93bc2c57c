use Rattle.std.proofs.Common.{◌≡◌, drop}
use Rattle.sp_waits.specs.Levels.{edges_of}
use Rattle.sp_waits.proofs.levels.waits_of.Given as goal

abbrev pub invariant-loop-node : goal.invariant-loop-node
invariant-loop-node l = edges_of l.graph l.session ≡ edges_of (drop l.node-index l.graph) l.session
