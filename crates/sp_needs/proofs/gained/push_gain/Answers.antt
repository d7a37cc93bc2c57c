use Rattle.std.proofs.Common.{◌||◌, List, ◌∙◌, ap, sym}
use Rattle.sp_rect.specs.Plane.{Rectangle}
use Rattle.sp_region.specs.Region.{covered}
use Rattle.sp_node.specs.Plan.{planned}
use Rattle.sp_granule.specs.Granules.{granules}
use Rattle.sp_needs.specs.Affected.{leaf_has}
use Rattle.sp_needs.proofs.Gaining.{gain_more, gain_none}
use Rattle.sp_needs.proofs.Outcome.{on_ok}
use Rattle.sp_needs.proofs.gained.push_gain.Goals as goal

pub returns : goal.returns
returns c =
    let t = c.args.tree.now.table in
    let t' = planned t c.args.plan.now in
    on_ok c.push_all.result
    (λ h p.
    gain_more t t' c.requires.valid p c.args.number c.in-Some.space c.args.rects.now c.push_all.new.rects c.in_ok-region.region c.push_leaf.new.rects (sym c.in-Some.ensures)
    (h p ∙ ap (λ (rs : List Rectangle). covered c.args.rects.now p || covered rs p) c.rects.ensures.value) (c.in_ok-region.ensures.points p)
    (c.in_ok-push_leaf.ensures p ∙ ap (λ (rs : List Rectangle). covered rs p || leaf_has (granules t) p c.args.number) c.new-old.ensures))
    c.push_all.ensures

pub returns-in_default : goal.returns-in_default
returns-in_default c p =
    let t = c.args.tree.now.table in
    let t' = planned t c.args.plan.now in
    gain_none t t' c.requires.valid p c.args.number c.args.rects.now (sym c.in_default.ensures)
