use Rattle.std.proofs.Common.{◌≡◌, Option, sym, ap, subst}
use Rattle.std.specs.Prelude.{MatchOption}
use Rattle.sp_node.specs.declared.node.Entry.{Entry}
use Rattle.sp_node.specs.Index.{entry_of}
use Rattle.sp_node.specs.Plan.{Roomy}
use Rattle.sp_node.specs.Standing.{HasNoEntry, IsEntryOf}
use Rattle.sp_node.specs.Table.{Table}
use Rattle.sp_node.proofs.Standing.{entry_stands}
use Rattle.sp_node.proofs.tree.Tree.entry.Goals as goal

pub returns-clause-stands : goal.returns-clause-stands
returns-clause-stands c =
    let t : Table = record { shape = c.self.inside.shape; root = c.self.inside.root; next = c.self.inside.next; nodes = c.self.inside.nodes.nodes } in
    let is : t ≡ c.args.self.now.table = ap (λ (s : Roomy). s.table) c.self.view_is in
    subst (λ (o : Option Entry). MatchOption o (HasNoEntry c.args.self.now.table c.args.number) (IsEntryOf c.args.self.now.table c.args.number)) (sym c.find.ensures)
    (subst (λ (u : Table). MatchOption (entry_of u.nodes c.args.number) (HasNoEntry u c.args.number) (IsEntryOf u c.args.number)) is (entry_stands t c.self.invariant.valid c.args.number))
