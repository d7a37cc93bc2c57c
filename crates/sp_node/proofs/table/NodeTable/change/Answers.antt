use Rattle.std.proofs.Common.{sym, subst}
use Rattle.sp_node.specs.Look.{IsAscending}
use Rattle.sp_node.specs.First.{changed, node_first_changed}
use Rattle.sp_node.proofs.Pairs.{ascending_changed}
use Rattle.sp_node.proofs.table.NodeTable.change.Goals as goal

pub invariant_of-self : goal.invariant_of-self
invariant_of-self c = subst IsAscending (sym c.change_pair.ensures.items) (ascending_changed c.args.leaf (node_first_changed c.args.entry (changed c.args.change)) c.self.inside.pairs.items c.self.invariant)
