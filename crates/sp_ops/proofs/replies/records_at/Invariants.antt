use Rattle.std.proofs.Common.{◌≡◌, take, map}
use Rattle.sp_txn.specs.Visible.{record_for}
use Rattle.sp_ops.specs.Seen.{entries_at}
use Rattle.sp_ops.proofs.replies.records_at.Given as goal

abbrev pub invariant-loop-number : goal.invariant-loop-number
invariant-loop-number l = l.records.items ≡ map (record_for l.txn) (entries_at l.tree.table.nodes (take l.number-index l.numbers))
