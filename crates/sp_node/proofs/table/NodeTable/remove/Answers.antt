use Rattle.std.proofs.Common.{sym, subst}
use Rattle.sp_node.specs.Look.{IsAscending}
use Rattle.sp_node.proofs.Pairs.{ascending_take}
use Rattle.sp_node.proofs.table.NodeTable.remove.Goals as goal

pub invariant_of-self : goal.invariant_of-self
invariant_of-self c = subst IsAscending (sym c.remove_pair.ensures.items) (ascending_take c.args.number c.self.inside.pairs.items c.self.invariant)
