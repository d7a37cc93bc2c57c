use Rattle.std.proofs.Common.{◌≡◌, take}
use Rattle.std.specs.List.{filter}
use Rattle.sp_node.specs.Index.{entry_of}
use Rattle.sp_ops.specs.Seen.{sees}
use Rattle.sp_ops.proofs.seen.keep_seen.Given as goal

abbrev pub invariant-loop-number : goal.invariant-loop-number
invariant-loop-number l = l.kept.items ≡ filter (λ n. sees l.txn (entry_of l.tree.table.nodes n)) (take l.number-index l.numbers)
