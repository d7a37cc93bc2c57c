use Rattle.sp_ops.specs.Effect.{mark_of}
use Rattle.sp_ops.proofs.Seeing.{entries_more}
use Rattle.sp_ops.proofs.marking.marks_at.Goals as goal

pub loop-number-preserved : goal.loop-number-preserved
loop-number-preserved c =
    entries_more (mark_of c.args.txn c.args.op.now) c.args.tree.now.table.nodes c.args.numbers.now c.loop-number.number-index 0 c.loop-number.marked.items c.push_mark.new.marked.items c.loop-number-test.true c.loop-number.invariant c.in_ok-push_mark.ensures
