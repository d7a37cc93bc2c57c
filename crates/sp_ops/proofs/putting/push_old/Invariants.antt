use Rattle.std.proofs.Common.{◌≡◌, ◌++◌, is_some, take}
use Rattle.std.specs.List.{filter}
use Rattle.sp_node.specs.Look.{look}
use Rattle.sp_ops.proofs.putting.push_old.Given as goal

abbrev pub invariant-loop-number : goal.invariant-loop-number
invariant-loop-number l = l.found.items ≡ l.fn.found.items ++ filter (λ n. is_some (look l.tree.table.nodes n)) (take l.number-index l.numbers)
