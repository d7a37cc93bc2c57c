use Rattle.std.proofs.Common.{◌≡◌, ℕ, Option, ◌∙◌, ap, sym, subst}
use Rattle.std.specs.Prelude.{nat_eq, IfOk}
use Rattle.std.specs.Option.{option_and_then}
use Rattle.sp_granule.specs.Granules.{granules}
use Rattle.sp_needs.specs.declared.area.Area.{Area}
use Rattle.sp_needs.specs.Areas.{area_at, node_area}
use Rattle.sp_needs.proofs.Granules.{area_is}
use Rattle.sp_needs.proofs.area.before.Goals as goal

pub returns-in-Some-clause-area : goal.returns-in-Some-clause-area
returns-in-Some-clause-area c =
    let t = c.args.tree.now.table in
    let n = c.args.number in
    let is : node_area (nat_eq n c.root.result) c.in-Some.node.now ≡ area_at (granules t) n =
    ap (λ (k : ℕ). node_area (nat_eq n k) c.in-Some.node.now) c.root.ensures.value ∙ ap (option_and_then (node_area (nat_eq n t.root))) c.in-Some.ensures.value ∙ sym (area_is t c.root.ensures.valid n) in
    subst (λ (o : Option Area). IfOk c.area_of_node.result (λ area. area ≡ o)) is c.area_of_node.ensures

pub returns-in-None-clause-area : goal.returns-in-None-clause-area
returns-in-None-clause-area c =
    let t = c.args.tree.now.table in
    let n = c.args.number in
    ap (option_and_then (node_area (nat_eq n t.root))) c.in-None.ensures.value ∙ sym (area_is t c.in-None.ensures.valid n)
