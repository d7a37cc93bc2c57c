use Rattle.std.proofs.Common.{◌≡◌, ◌∙◌, ap, sym}
use Rattle.std.specs.Prelude.{nat_eq}
use Rattle.std.specs.Option.{option_and_then}
use Rattle.sp_node.specs.Plan.{planned}
use Rattle.sp_granule.specs.Granules.{granules}
use Rattle.sp_needs.specs.Areas.{leaf_space_in, leaf_space_at}
use Rattle.sp_needs.proofs.Granules.{leaf_space_is}
use Rattle.sp_needs.proofs.area.space_after.Goals as goal

pub returns : goal.returns
returns c =
    let t = planned c.args.tree.now.table c.args.plan.now in
    let n = c.args.number in
    let is : leaf_space_in (nat_eq n t.root) c.in_ok-node_after.field-0.now ≡ leaf_space_at (granules t) n = ap (option_and_then (leaf_space_in (nat_eq n t.root))) c.in_ok-node_after.ensures ∙ sym (leaf_space_is t c.requires.valid n) in
    c.space_of_leaf.ensures ∙ is

pub returns-in_err-node_after : goal.returns-in_err-node_after
returns-in_err-node_after c =
    let t = planned c.args.tree.now.table c.args.plan.now in
    let n = c.args.number in
    c.from_residual.ensures ∙ (ap (option_and_then (leaf_space_in (nat_eq n t.root))) c.in_err-node_after.ensures ∙ sym (leaf_space_is t c.requires.valid n))
