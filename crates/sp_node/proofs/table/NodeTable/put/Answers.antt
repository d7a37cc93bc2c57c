use Rattle.std.proofs.Common.{sym, subst}
use Rattle.sp_node.specs.Look.{IsAscending}
use Rattle.sp_node.proofs.Pairs.{ascending_put}
use Rattle.sp_node.proofs.table.NodeTable.put.Goals as goal

pub invariant_of-self : goal.invariant_of-self
invariant_of-self c = subst IsAscending (sym c.put_pair.ensures.items) (ascending_put c.args.number c.args.node c.self.inside.pairs.items c.self.invariant)
