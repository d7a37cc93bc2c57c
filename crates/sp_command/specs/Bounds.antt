-- The ranges of what a command line asks for.
use Rattle.std.specs.Prelude.{ℕ, ◌≤◌, ⊤}
use Rattle.sp_node.specs.Table.{IsShape}
use Rattle.sp_command.specs.declared.task.Task.{Task}
use Rattle.sp_command.specs.declared.task.Task.TheVariants.{Play, Drill, Dump, Check, Compact, Make, Stress}

-- a seed and a number of rounds
abbrev pub IsScript : ℕ → ℕ → Type 0
IsScript seed count = (1 ≤ seed) × (seed ≤ 2147483646) × (count ≤ 10000)

-- sizes that an index can have, and numbers that a script can be made of
abbrev pub IsBounded : Task → Type 0
IsBounded (Play run) = IsShape run.shape
IsBounded (Drill run) = IsShape run.shape
IsBounded (Dump journal) = ⊤
IsBounded (Check journal) = ⊤
IsBounded (Compact journal) = ⊤
IsBounded (Make seed count) = IsScript seed count
IsBounded (Stress seed count shape) = IsScript seed count × IsShape shape
