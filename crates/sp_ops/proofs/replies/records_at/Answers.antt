use Rattle.sp_txn.specs.Visible.{record_for}
use Rattle.sp_ops.proofs.Seeing.{entries_more}
use Rattle.sp_ops.proofs.replies.records_at.Goals as goal

pub loop-number-preserved : goal.loop-number-preserved
loop-number-preserved c =
    entries_more (record_for c.args.txn) c.args.tree.now.table.nodes c.args.numbers.now c.loop-number.number-index 0 c.loop-number.records.items c.push_record.new.records.items c.loop-number-test.true c.loop-number.invariant c.in_ok-push_record.ensures
