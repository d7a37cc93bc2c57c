use Rattle.std.proofs.Common.{ℕ, List, length, ◌∙◌, sym, subst, rules}
use Rattle.std.specs.List.Sorted.{IsSearchInRange, IsBinarySearchResult}
use Rattle.std.specs.Ordering.{nat_cmp}
use Rattle.std.proofs.lemmas.List.Sorted.{answers_always}
use Rattle.sp_node.specs.declared.node.Node.{Node}
use Rattle.sp_node.proofs.Pairs.{rises, below_at, around, take_at, take_none}
use Rattle.sp_node.proofs.table.remove_pair.Goals as goal

pub returns-in-Ok-clause-items : goal.returns-in-Ok-clause-items
returns-in-Ok-clause-items c =
    let items = c.args.pairs.now.items in
    let facts = c.binary_search_by_key.ensures in
    let by_key = facts.position (λ pair. pair.0) (answers_always _ _ _ (λ f a r g called. search rules)) in
    let f = below_at items (rises items c.requires) c.args.number c.in-Ok.at c.binary_search_by_key.result c.in-Ok.is (subst (λ (l : List (ℕ × Node)). IsSearchInRange c.binary_search_by_key.result (length l)) c.deref.ensures.value facts.bound)
    (subst (λ (l : List (ℕ × Node)). IsBinarySearchResult (λ pair. nat_cmp pair.0 c.args.number) l c.binary_search_by_key.result) c.deref.ensures.value by_key) in
    let e = take_at c.args.number items c.in-Ok.at f.0 (rises items c.requires) f.1 in
    c.remove.ensures.items ∙ sym e

pub returns-in_default-clause-items : goal.returns-in_default-clause-items
returns-in_default-clause-items c =
    let items = c.args.pairs.now.items in
    let facts = c.binary_search_by_key.ensures in
    let by_key = facts.position (λ pair. pair.0) (answers_always _ _ _ (λ f a r g called. search rules)) in
    let f = around items (rises items c.requires) c.args.number c.in_default.field-0 c.binary_search_by_key.result c.in_default.is (subst (λ (l : List (ℕ × Node)). IsSearchInRange c.binary_search_by_key.result (length l)) c.deref.ensures.value facts.bound)
    (subst (λ (l : List (ℕ × Node)). IsBinarySearchResult (λ pair. nat_cmp pair.0 c.args.number) l c.binary_search_by_key.result) c.deref.ensures.value by_key) in
    sym (take_none c.args.number items f.3)
