use Rattle.sp_node.specs.declared.node.Entry.{Entry}
use Rattle.sp_ops.proofs.Seeing.{entries_more}
use Rattle.sp_ops.proofs.distinct.ids_at.Goals as goal

pub loop-number-preserved : goal.loop-number-preserved
loop-number-preserved c =
    entries_more (λ (e : Entry). e.id) c.args.tree.now.table.nodes c.args.numbers.now c.loop-number.number-index 0 c.loop-number.ids.items c.push_id.new.ids.items c.loop-number-test.true c.loop-number.invariant c.in_ok-push_id.ensures
