use Rattle.std.proofs.Common.{◌≡◌, ℕ, List, [], length, ◌∙◌, sym, ap, subst, rules, get_or, slice_set}
use Rattle.std.specs.List.Sorted.{IsSearchInRange, IsBinarySearchResult}
use Rattle.std.specs.Ordering.{nat_cmp}
use Rattle.std.proofs.lemmas.List.Sorted.{answers_always}
use Rattle.std.proofs.lemmas.List.{get_or_read}
use Rattle.sp_node.specs.declared.node.Node.{Node}
use Rattle.sp_node.specs.declared.node.Node.TheVariants.{Leaf}
use Rattle.sp_node.specs.First.{changed, node_first_changed}
use Rattle.sp_node.proofs.Pairs.{rises, below_at, around, changed_at, changed_none}
use Rattle.sp_node.proofs.table.change_pair.Goals as goal

pub returns-in-Ok-clause-items : goal.returns-in-Ok-clause-items
returns-in-Ok-clause-items c =
    let items = c.args.pairs.now.items in
    let k = c.args.leaf in
    let at = c.in-Ok.at in
    let change : Node → Node = node_first_changed c.args.entry (changed c.args.change) in
    let pair = c.index_mut-pair.result.now in
    let facts = c.binary_search_by_key.ensures in
    let by_key = facts.position (λ pair. pair.0) (answers_always _ _ _ (λ f a r g called. search rules)) in
    let f = below_at items (rises items c.requires) k at c.binary_search_by_key.result c.in-Ok.is (subst (λ (l : List (ℕ × Node)). IsSearchInRange c.binary_search_by_key.result (length l)) c.deref.ensures.value facts.bound)
    (subst (λ (l : List (ℕ × Node)). IsBinarySearchResult (λ pair. nat_cmp pair.0 k) l c.binary_search_by_key.result) c.deref.ensures.value by_key) in
    let here : pair ≡ get_or items at (0, Leaf []) = get_or_read items at pair f.0 c.index_mut-pair.ensures.value (0, Leaf []) in
    let named : pair.0 ≡ k = ap (λ (p : ℕ × Node). p.0) here ∙ f.1 in
    let made = c.change_node.ensures ∙ ap change (c.replace-node.ensures.value ∙ ap (λ (p : ℕ × Node). p.1) here) in
    ap (λ (n : ℕ). slice_set items at (n, c.change_node.result)) named ∙ ap (λ (n : Node). slice_set items at (k, n)) made ∙ sym (changed_at k change items at f.0 f.1 f.2)

pub returns-in_default-clause-items : goal.returns-in_default-clause-items
returns-in_default-clause-items c =
    let items = c.args.pairs.now.items in
    let facts = c.binary_search_by_key.ensures in
    let by_key = facts.position (λ pair. pair.0) (answers_always _ _ _ (λ f a r g called. search rules)) in
    let f = around items (rises items c.requires) c.args.leaf c.in_default.field-0 c.binary_search_by_key.result c.in_default.is (subst (λ (l : List (ℕ × Node)). IsSearchInRange c.binary_search_by_key.result (length l)) c.deref.ensures.value facts.bound)
    (subst (λ (l : List (ℕ × Node)). IsBinarySearchResult (λ pair. nat_cmp pair.0 c.args.leaf) l c.binary_search_by_key.result) c.deref.ensures.value by_key) in
    sym (changed_none c.args.leaf (node_first_changed c.args.entry (changed c.args.change)) items f.3)
