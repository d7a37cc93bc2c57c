use Rattle.sp_ops.proofs.Reasons.{objects_more}
use Rattle.sp_ops.proofs.staying.push_objects.Goals as goal

pub loop-entry-preserved : goal.loop-entry-preserved
loop-entry-preserved c =
    objects_more c.args.tree.now.table.nodes c.args.entries.now c.loop-entry.entry-index 0 c.args.wants.now.items c.loop-entry.wants.items c.push_object.new.wants.items c.loop-entry-test.true c.loop-entry.invariant c.in_ok-push_object.ensures
