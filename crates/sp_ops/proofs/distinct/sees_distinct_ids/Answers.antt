use Rattle.std.proofs.Common.{◌≡◌, ◌↔◌, ℕ, List, IsTrue, map, ap, ◌∙◌}
use Rattle.std.specs.List.Sorted.{IsStrictlyIncreasing}
use Rattle.std.proofs.lemmas.List.Sorted.{IsNonDecreasingBy-from_sort}
use Rattle.sp_node.specs.declared.node.Entry.{Entry}
use Rattle.sp_ops.specs.Seen.{entries_at}
use Rattle.sp_ops.proofs.OneEach.{ids_ordered}
use Rattle.sp_ops.proofs.distinct.sees_distinct_ids.Goals as goal

pub returns : goal.returns
returns c =
    let t = c.args.tree.now.table in
    let is : c.in_ok-ids.ids.items ≡ map (λ e. e.id) (entries_at t.nodes c.in_ok-numbers.numbers) = c.in_ok-ids.ensures ∙ ap (λ (ns : List ℕ). map (λ (e : Entry). e.id) (entries_at t.nodes ns)) c.as_slice.ensures in
    let h =
    ids_ordered t c.root-valid.ensures.valid c.args.txn c.in_ok-numbers.numbers c.in_ok-ids.ids.items c.sort.new.self.items c.in_ok-numbers.ensures.found is c.in_ok-sort.ensures.permutation
    (IsNonDecreasingBy-from_sort (λ (x : ℕ). x) c.sort.new.self.items c.in_ok-sort.ensures.sorted) in
    let k : IsTrue c.ascend.result ↔ IsStrictlyIncreasing c.sort.new.self.items = rw c.as_slice-2.ensures.value at c.ascend.ensures in
    (λ e. h.0 (k.0 e), λ o. k.1 (h.1 o))
