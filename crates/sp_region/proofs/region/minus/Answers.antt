use Rattle.std.proofs.Common.{◌∙◌, ap, List}
use Rattle.sp_rect.specs.Plane.{Rectangle, holds}
use Rattle.sp_region.specs.Region.{is_left}
use Rattle.sp_region.proofs.Left.{any_once, at_most_one, whole_times}
use Rattle.sp_region.proofs.region.minus.Goals as goal

pub invariant_of-result : goal.invariant_of-result
invariant_of-result c p = at_most_one _ (is_left c.args.rect.now c.as_slice.result.now p) (c.in_ok-rects.ensures p ∙ whole_times c.args.rect.now c.as_slice.result.now c.in_ok-pending.pending.items c.in_ok-pending.ensures p)

pub returns-clause-points : goal.returns-clause-points
returns-clause-points c p =
    any_once (λ (r : Rectangle). holds r p) c.in_ok-rects.rects (is_left c.args.rect.now c.as_slice.result.now p)
    (c.in_ok-rects.ensures p ∙ whole_times c.args.rect.now c.as_slice.result.now c.in_ok-pending.pending.items c.in_ok-pending.ensures p)
    ∙ ap (λ (others : List Rectangle). is_left c.args.rect.now others p) c.as_slice.ensures

pub returns-clause-disjoint : goal.returns-clause-disjoint
returns-clause-disjoint c = invariant_of-result c
