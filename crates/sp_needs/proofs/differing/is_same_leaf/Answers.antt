use Rattle.std.proofs.Common.{sym, ◌∙◌}
use Rattle.sp_node.specs.Plan.{planned}
use Rattle.sp_granule.specs.Granules.{granules}
use Rattle.sp_needs.proofs.Spaces.{same_leaf_is}
use Rattle.sp_needs.proofs.differing.is_same_leaf.Goals as goal

pub returns-clause-same : goal.returns-clause-same
returns-clause-same c =
    let t = c.args.tree.now.table in
    let is = same_leaf_is (granules t) (granules (planned t c.args.plan.now)) c.args.number c.in-Some.old c.in-Some-space_after.new (sym c.in-Some.ensures.space) (sym c.in-Some-space_after.ensures) in
    (λ e. is.0 (sym c.eq.ensures ∙ e), λ h. c.eq.ensures ∙ is.1 h)
