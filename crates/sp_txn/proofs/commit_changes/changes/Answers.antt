use Rattle.std.proofs.Common.{ℕ, List, sym, ap, subst, rules, ◌∙◌}
use Rattle.std.specs.Prelude.{flat_map}
use Rattle.std.specs.List.Sorted.{IsPermutation, IsSortedBy}
use Rattle.std.proofs.lemmas.List.Sorted.{IsPermutation-trans, answers_always}
use Rattle.sp_plain.specs.declared.change.Change.{Change}
use Rattle.sp_node.specs.Table.{entries_of}
use Rattle.sp_txn.specs.Changes.{changes_of, precedes}
use Rattle.sp_txn.proofs.Collecting.{change_at, collected, order, ordered}
use Rattle.sp_txn.proofs.commit_changes.changes.Goals as goal

pub returns-clause-exact : goal.returns-clause-exact
returns-clause-exact c =
    let t = c.args.tree.now.table in
    let all : List Change = changes_of c.args.txn (entries_of t) in
    let p = collected t c.root-root.ensures.valid c.args.txn c.in_ok-numbers.numbers c.in_ok-numbers.ensures.found in
    let q : IsPermutation all c.in_ok-found.found.items = subst (IsPermutation all) (sym (c.in_ok-found.ensures ∙ ap (λ (ns : List ℕ). flat_map (change_at t c.args.txn) ns) c.as_slice.ensures)) p in
    subst (IsPermutation all) (sym c.from_vec.ensures) (IsPermutation-trans all c.in_ok-found.found.items c.sort_by_key.new.self.items q c.in_ok-sort_by_key.ensures.permutation)

pub returns-clause-ordered : goal.returns-clause-ordered
returns-clause-ordered c = subst (IsSortedBy precedes) (sym c.from_vec.ensures) (ordered c.sort_by_key.new.self.items (c.in_ok-sort_by_key.ensures.sorted order (answers_always _ _ _ (λ f a r g called. search rules))))
