use Rattle.std.proofs.Common.{◌≡◌, Option, sym, ap, subst}
use Rattle.std.specs.Prelude.{MatchOption}
use Rattle.sp_node.specs.declared.node.Node.{Node}
use Rattle.sp_node.specs.Look.{look}
use Rattle.sp_node.specs.Plan.{Roomy}
use Rattle.sp_node.specs.Standing.{HasNoNode, IsNodeOf}
use Rattle.sp_node.specs.Table.{Table}
use Rattle.sp_node.proofs.Standing.{node_stands}
use Rattle.sp_node.proofs.tree.Tree.node.Goals as goal

pub returns-clause-stands : goal.returns-clause-stands
returns-clause-stands c =
    let t : Table = record { shape = c.self.inside.shape; root = c.self.inside.root; next = c.self.inside.next; nodes = c.self.inside.nodes.nodes } in
    let is : t ≡ c.args.self.now.table = ap (λ (s : Roomy). s.table) c.self.view_is in
    subst (λ (o : Option Node). MatchOption o (HasNoNode c.args.self.now.table c.args.number) (IsNodeOf c.args.self.now.table c.args.number)) (sym c.get.ensures)
    (subst (λ (u : Table). MatchOption (look t.nodes c.args.number) (HasNoNode u c.args.number) (IsNodeOf u c.args.number)) is (node_stands t c.self.invariant.valid c.args.number))
