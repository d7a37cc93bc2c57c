use Rattle.std.proofs.Common.{Some, sym, ap, ◌∙◌, rules}
use Rattle.std.proofs.lemmas.List.Sorted.{answers_always}
use Rattle.sp_node.specs.declared.plan.Part.{Part}
use Rattle.sp_node.specs.declared.plan.Part.TheVariants.{Gone}
use Rattle.sp_node.specs.Plan.{number_of}
use Rattle.sp_node.proofs.Parts.{rises, found, missing, read_there}
use Rattle.sp_node.proofs.overlay.part_named.Goals as goal

-- the closure gives a part's number
pub returns-in-Ok : goal.returns-in-Ok
returns-in-Ok c =
    let ps = c.args.parts.now in
    let facts = c.binary_search_by_key.ensures in
    let by_key = facts.position number_of (answers_always _ _ _ (λ f a r g called. search rules)) in
    let f = found ps (rises ps c.requires) c.args.number c.in-Ok.at c.binary_search_by_key.result c.in-Ok.is facts.bound by_key in
    ap (λ (p : Part). Some p) (c.index-parts-at.is ∙ read_there ps c.in-Ok.at c.index-parts-at.result (Gone 0) f.0) ∙ sym f.1

pub returns-in-Err : goal.returns-in-Err
returns-in-Err c =
    let ps = c.args.parts.now in
    let facts = c.binary_search_by_key.ensures in
    let by_key = facts.position number_of (answers_always _ _ _ (λ f a r g called. search rules)) in
    sym (missing ps (rises ps c.requires) c.args.number c.in-Err.field-0 c.binary_search_by_key.result c.in-Err.is facts.bound by_key)
