use Rattle.std.proofs.Common.{◌≡◌, Option, ◌∙◌, ap, sym, subst}
use Rattle.std.specs.Prelude.{nat_eq, IfOk}
use Rattle.std.specs.Option.{option_and_then}
use Rattle.sp_node.specs.Plan.{planned}
use Rattle.sp_granule.specs.Granules.{granules}
use Rattle.sp_needs.specs.declared.area.Area.{Area}
use Rattle.sp_needs.specs.Areas.{area_at, node_area}
use Rattle.sp_needs.proofs.Granules.{area_is}
use Rattle.sp_needs.proofs.area.after.Goals as goal

pub returns-in-Some : goal.returns-in-Some
returns-in-Some c =
    let t = planned c.args.tree.now.table c.args.plan.now in
    let n = c.args.number in
    let is : node_area (nat_eq n t.root) c.in-Some.node.now ≡ area_at (granules t) n = ap (option_and_then (node_area (nat_eq n t.root))) c.in-Some.ensures ∙ sym (area_is t c.requires.valid n) in
    subst (λ (o : Option Area). IfOk c.area_of_node.result (λ area. area ≡ o)) is c.area_of_node.ensures

pub returns-in-None : goal.returns-in-None
returns-in-None c =
    let t = planned c.args.tree.now.table c.args.plan.now in
    let n = c.args.number in
    ap (option_and_then (node_area (nat_eq n t.root))) c.in-None.ensures ∙ sym (area_is t c.requires.valid n)
