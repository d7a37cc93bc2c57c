use Rattle.std.proofs.Common.{Option, sym, subst}
use Rattle.std.specs.Prelude.{MatchOption}
use Rattle.sp_node.specs.declared.node.Node.{Node}
use Rattle.sp_node.specs.Standing.{HasNoNode, IsNodeOf}
use Rattle.sp_node.specs.Table.{IsValid}
use Rattle.sp_node.proofs.Standing.{node_stands}
use Rattle.sp_node.proofs.overlay.Overlay.node.Goals as goal

pub returns-clause-stands : goal.returns-clause-stands
returns-clause-stands c =
    let valid = subst IsValid c.self.view_is c.self.invariant.valid in
    subst (λ (o : Option Node). MatchOption o (HasNoNode c.args.self.now c.args.number) (IsNodeOf c.args.self.now c.args.number)) (sym c.find.ensures) (node_stands c.args.self.now valid c.args.number)
