use Rattle.std.proofs.Common.{[]}
use Rattle.sp_node.specs.declared.node.Node.TheVariants.{Leaf}
use Rattle.sp_node.proofs.Pairs.{look_here}
use Rattle.sp_node.proofs.table.at_its_number.Goals as goal

pub returns-then-pair-number : goal.returns-then-pair-number
returns-then-pair-number c =
    let found = c.in_ok-pair.ensures.lookup in
    look_here c.args.pairs.now c.args.number c.saturating_sub-at.result c.in_ok-pair.pair.now c.requires found.3.0 (found.3.1 (0, Leaf [])) c.if-pair-number.true
