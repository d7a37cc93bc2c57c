use Rattle.std.proofs.Common.{◌≡◌, ℕ, List, sym, ap, subst, ◌∙◌}
use Rattle.std.specs.List.{filter}
use Rattle.std.specs.List.Sorted.{IsPermutation, IsStrictlyIncreasing}
use Rattle.sp_node.specs.Known.{numbers_under}
use Rattle.sp_node.specs.Index.{entry_of, passes, AreAllNoted}
use Rattle.sp_node.specs.Plan.{Roomy}
use Rattle.sp_node.specs.Marked.{entries_marked}
use Rattle.sp_node.specs.Marks.{is_marked}
use Rattle.sp_node.specs.Table.{Table, IsValid}
use Rattle.sp_node.proofs.Members.{ascends_filter}
use Rattle.sp_node.proofs.Standing.{with_marks}
use Rattle.sp_node.proofs.tree.Tree.marked.Goals as goal

kept : (c : goal.After-drop-numbers-2) → c.from_vec.result ≡ filter (λ n. passes (is_marked c.args.txn) (entry_of c.args.self.now.table.nodes n)) (numbers_under c.self.inside.marks c.args.txn)
kept c = c.from_vec.ensures ∙ c.in_ok-found.ensures ∙ ap (λ (ns : List ℕ). filter (λ n. passes (is_marked c.args.txn) (entry_of c.args.self.now.table.nodes n)) ns) (c.deref.ensures.value ∙ c.in_ok-numbers.ensures.found)

ascends : (c : goal.After-drop-numbers-2) → IsStrictlyIncreasing (numbers_under c.self.inside.marks c.args.txn)
ascends c = subst IsStrictlyIncreasing c.in_ok-numbers.ensures.found c.in_ok-numbers.ensures.ascending

pub returns-clause-found : goal.returns-clause-found
returns-clause-found c =
    let t : Table = record { shape = c.self.inside.shape; root = c.self.inside.root; next = c.self.inside.next; nodes = c.self.inside.nodes.nodes } in
    let is : t ≡ c.args.self.now.table = ap (λ (s : Roomy). s.table) c.self.view_is in
    let valid = subst IsValid is c.self.invariant.valid in
    let known = subst (λ (u : Table). AreAllNoted c.self.inside.marks u.nodes) is c.self.invariant.noted in
    subst (IsPermutation (entries_marked c.args.self.now.table c.args.txn)) (sym (kept c)) (with_marks c.args.self.now.table valid c.args.txn c.self.inside.marks known (ascends c))

pub returns-clause-ascending : goal.returns-clause-ascending
returns-clause-ascending c = subst IsStrictlyIncreasing (sym (kept c)) (ascends_filter (λ n. passes (is_marked c.args.txn) (entry_of c.args.self.now.table.nodes n)) (numbers_under c.self.inside.marks c.args.txn) (ascends c))
