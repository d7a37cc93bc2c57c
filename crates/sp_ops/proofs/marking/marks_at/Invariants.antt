use Rattle.std.proofs.Common.{◌≡◌, take, map}
use Rattle.sp_ops.specs.Seen.{entries_at}
use Rattle.sp_ops.specs.Effect.{mark_of}
use Rattle.sp_ops.proofs.marking.marks_at.Given as goal

abbrev pub invariant-loop-number : goal.invariant-loop-number
invariant-loop-number l = l.marked.items ≡ map (mark_of l.txn l.op) (entries_at l.tree.table.nodes (take l.number-index l.numbers))
