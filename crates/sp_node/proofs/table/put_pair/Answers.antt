use Rattle.std.specs.Prelude.{if◌then◌else◌, IsOk, is_ok}
use Rattle.std.proofs.Common.{◌≡◌, Result, Ok, Err, refl, ℕ, List, length, ◌∙◌, sym, subst, rules}
use Rattle.std.specs.List.Sorted.{IsSearchInRange, IsBinarySearchResult}
use Rattle.std.specs.Ordering.{nat_cmp}
use Rattle.std.proofs.lemmas.List.Sorted.{answers_always}
use Rattle.sp_node.specs.declared.node.Node.{Node}
use Rattle.sp_node.proofs.Pairs.{rises, below_at, around, put_at, put_between}
use Rattle.sp_node.proofs.table.put_pair.Goals as goal

pub returns-in-Ok-clause-items : goal.returns-in-Ok-clause-items
returns-in-Ok-clause-items c =
    let items = c.args.pairs.now.items in
    let facts = c.binary_search_by_key.ensures in
    let by_key = facts.position (λ pair. pair.0) (answers_always _ _ _ (λ f a r g called. search rules)) in
    let f = below_at items (rises items c.requires.ascending) c.args.number c.in-Ok.at c.binary_search_by_key.result c.in-Ok.is (subst (λ (l : List (ℕ × Node)). IsSearchInRange c.binary_search_by_key.result (length l)) c.deref.ensures.value facts.bound)
    (subst (λ (l : List (ℕ × Node)). IsBinarySearchResult (λ pair. nat_cmp pair.0 c.args.number) l c.binary_search_by_key.result) c.deref.ensures.value by_key) in
    let e = put_at c.args.number c.args.node items c.in-Ok.at f.0 f.1 f.2 in
    sym e

picked : {A E X : Type 0} (r : Result A E) (x y : X) → IsOk r → (if is_ok r then x else y) ≡ x
picked (Ok v) x y h = refl
picked (Err e) x y h = cc

pub returns-in-Err-clause-items : goal.returns-in-Err-clause-items
returns-in-Err-clause-items c =
    let items = c.args.pairs.now.items in
    let facts = c.binary_search_by_key.ensures in
    let by_key = facts.position (λ pair. pair.0) (answers_always _ _ _ (λ f a r g called. search rules)) in
    let f = around items (rises items c.requires.ascending) c.args.number c.in-Err.at c.binary_search_by_key.result c.in-Err.is (subst (λ (l : List (ℕ × Node)). IsSearchInRange c.binary_search_by_key.result (length l)) c.deref.ensures.value facts.bound)
    (subst (λ (l : List (ℕ × Node)). IsBinarySearchResult (λ pair. nat_cmp pair.0 c.args.number) l c.binary_search_by_key.result) c.deref.ensures.value by_key) in
    let e = put_between c.args.number c.args.node items c.in-Err.at f.0 f.1 f.2 in
    c.insert.ensures.items ∙ picked c.insert.result _ _ (c.insert.ensures.succeeds c.requires.room) ∙ sym e
