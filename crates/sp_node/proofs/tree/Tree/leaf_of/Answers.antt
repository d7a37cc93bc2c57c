use Rattle.std.proofs.Common.{◌≡◌, ℕ, Option, ◌∙◌, sym, ap, subst}
use Rattle.std.specs.Prelude.{nat_eq, MatchOption}
use Rattle.std.specs.HashMap.{get}
use Rattle.sp_node.specs.Index.{leaf_with}
use Rattle.sp_node.specs.Plan.{Roomy}
use Rattle.sp_node.specs.Table.{Table}
use Rattle.sp_node.specs.Standing.{HasNoEntry, IsLeafOf}
use Rattle.sp_node.proofs.Single.{index_is_first}
use Rattle.sp_node.proofs.Standing.{leaf_stands}
use Rattle.sp_node.proofs.tree.Tree.leaf_of.Goals as goal

pub returns-clause-value : goal.returns-clause-value
returns-clause-value c =
    let t : Table = record { shape = c.self.inside.shape; root = c.self.inside.root; next = c.self.inside.next; nodes = c.self.inside.nodes.nodes } in
    let e = index_is_first (λ q. get nat_eq c.self.inside.leaves q) t c.self.invariant.valid c.self.invariant.index c.args.entry in
    c.copied.ensures ∙ c.get.ensures.value ∙ e ∙ ap (λ (s : Roomy). leaf_with s.table.nodes c.args.entry) c.self.view_is

pub returns-clause-stands : goal.returns-clause-stands
returns-clause-stands c =
    let t : Table = record { shape = c.self.inside.shape; root = c.self.inside.root; next = c.self.inside.next; nodes = c.self.inside.nodes.nodes } in
    let same : c.copied.result ≡ leaf_with t.nodes c.args.entry = c.copied.ensures ∙ c.get.ensures.value ∙ index_is_first (λ q. get nat_eq c.self.inside.leaves q) t c.self.invariant.valid c.self.invariant.index c.args.entry in
    let is : t ≡ c.args.self.now.table = ap (λ (s : Roomy). s.table) c.self.view_is in
    subst (λ (o : Option ℕ). MatchOption o (HasNoEntry c.args.self.now.table c.args.entry) (IsLeafOf c.args.self.now.table c.args.entry)) (sym same)
    (subst (λ (u : Table). MatchOption (leaf_with t.nodes c.args.entry) (HasNoEntry u c.args.entry) (IsLeafOf u c.args.entry)) is (leaf_stands t c.self.invariant.valid c.args.entry))
