use Rattle.std.proofs.Common.{ℕ, [], Some, sym, ap, ◌∙◌, rules}
use Rattle.std.proofs.lemmas.List.Sorted.{answers_always}
use Rattle.std.proofs.lemmas.List.{get_or_read}
use Rattle.sp_node.specs.declared.node.Node.{Node}
use Rattle.sp_node.specs.declared.node.Node.TheVariants.{Leaf}
use Rattle.sp_node.proofs.Pairs.{found, missing, rises}
use Rattle.sp_node.proofs.table.searched.Goals as goal

-- the closure gives a pair's number
pub returns-in-Ok : goal.returns-in-Ok
returns-in-Ok c =
    let items = c.args.pairs.now in
    let facts = c.binary_search_by_key.ensures in
    let by_key = facts.position (λ pair. pair.0) (answers_always _ _ _ (λ f a r g called. search rules)) in
    let f = found items (rises items c.requires) c.args.number c.in-Ok.at c.binary_search_by_key.result c.in-Ok.is facts.bound by_key in
    ap (λ (p : ℕ × Node). Some p.1) (sym c.index-pairs-at.is ∙ get_or_read items c.in-Ok.at c.index-pairs-at.result f.0 c.index-pairs-at.is (0, Leaf [])) ∙ sym f.1

pub returns-in-Err : goal.returns-in-Err
returns-in-Err c =
    let items = c.args.pairs.now in
    let facts = c.binary_search_by_key.ensures in
    let by_key = facts.position (λ pair. pair.0) (answers_always _ _ _ (λ f a r g called. search rules)) in
    sym (missing items (rises items c.requires) c.args.number c.in-Err.field-0 c.binary_search_by_key.result c.in-Err.is facts.bound by_key)
