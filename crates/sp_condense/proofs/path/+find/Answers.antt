use Rattle.std.proofs.Common.{sym, arith}
use Rattle.sp_node.specs.Look.{look}
use Rattle.sp_condense.proofs.Ways.{not_below}
use Rattle.sp_condense.proofs.path.+find.Goals as goal

pub returns : goal.returns
returns t c =
    not_below (look c.args.tree.now.table.nodes) c.args.rect.now c.args.steps c.args.number c.args.leaf c.children_of-children.result.now c.if-number-leaf.false (sym c.children_of-children.ensures)
    (λ j d lt. c.children.invariant j d (omega (arith, lt, c.children-test.false)))
