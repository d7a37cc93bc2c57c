use Rattle.std.proofs.Common.{◌≡◌, ◌++◌, ◌+◌}
use Rattle.sp_waits.specs.Levels.{path_of}
use Rattle.sp_waits.proofs.levels.path.Given as goal

abbrev pub invariant-down : goal.invariant-down
invariant-down l = l.path ++ path_of l.graph l.levels.reached.items l.steps l.from ≡ path_of l.graph l.levels.reached.items (l.levels.steps + 1) l.session
