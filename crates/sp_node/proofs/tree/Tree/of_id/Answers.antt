use Rattle.std.proofs.Common.{◌≡◌, ℕ, List, sym, ap, subst, ◌∙◌}
use Rattle.std.specs.List.{filter}
use Rattle.std.specs.List.Sorted.{IsPermutation, IsStrictlyIncreasing}
use Rattle.sp_node.specs.Known.{numbers_under}
use Rattle.sp_node.specs.Index.{entry_of, has_id, AreAllKnown}
use Rattle.sp_node.specs.Plan.{Roomy}
use Rattle.sp_node.specs.Table.{Table, IsValid, entries_with_id}
use Rattle.sp_node.proofs.Members.{ascends_filter}
use Rattle.sp_node.proofs.Standing.{with_id}
use Rattle.sp_node.proofs.tree.Tree.of_id.Goals as goal

kept : (c : goal.After-drop-numbers-2) → c.from_vec.result ≡ filter (λ n. has_id c.args.id (entry_of c.args.self.now.table.nodes n)) (numbers_under c.self.inside.ids c.args.id)
kept c = c.from_vec.ensures ∙ c.in_ok-found.ensures ∙ ap (λ (ns : List ℕ). filter (λ n. has_id c.args.id (entry_of c.args.self.now.table.nodes n)) ns) (c.deref.ensures.value ∙ c.in_ok-numbers.ensures.found)

ascends : (c : goal.After-drop-numbers-2) → IsStrictlyIncreasing (numbers_under c.self.inside.ids c.args.id)
ascends c = subst IsStrictlyIncreasing c.in_ok-numbers.ensures.found c.in_ok-numbers.ensures.ascending

pub returns-clause-found : goal.returns-clause-found
returns-clause-found c =
    let t : Table = record { shape = c.self.inside.shape; root = c.self.inside.root; next = c.self.inside.next; nodes = c.self.inside.nodes.nodes } in
    let is : t ≡ c.args.self.now.table = ap (λ (s : Roomy). s.table) c.self.view_is in
    let valid = subst IsValid is c.self.invariant.valid in
    let known = subst (λ (u : Table). AreAllKnown c.self.inside.ids u.nodes) is c.self.invariant.known in
    subst (IsPermutation (entries_with_id c.args.self.now.table c.args.id)) (sym (kept c)) (with_id c.args.self.now.table valid c.args.id c.self.inside.ids known (ascends c))

pub returns-clause-ascending : goal.returns-clause-ascending
returns-clause-ascending c = subst IsStrictlyIncreasing (sym (kept c)) (ascends_filter (λ n. has_id c.args.id (entry_of c.args.self.now.table.nodes n)) (numbers_under c.self.inside.ids c.args.id) (ascends c))
