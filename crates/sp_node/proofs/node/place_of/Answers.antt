use Rattle.sp_node.proofs.Entries.{none_more}
use Rattle.sp_node.proofs.node.place_of.Goals as goal

pub loop-i-preserved : goal.loop-i-preserved
loop-i-preserved c = none_more c.args.number c.loop-i.i c.args.entries.now c.index-entries-i.result c.loop-i-test.true c.index-entries-i.is c.if-entry-number.false c.loop-i.invariant
