use Rattle.std.proofs.Common.{ap, ◌∙◌, arith, Option}
use Rattle.std.proofs.lemmas.Int.{ints}
use Rattle.sp_rect.specs.Plane.{Rectangle}
use Rattle.sp_region.specs.Region.{held_by}
use Rattle.sp_region.proofs.Parts.{part_points, greater_end, lesser_end}
use Rattle.sp_region.proofs.cut.part.Goals as goal

pub returns-clause-points : goal.returns-clause-points
returns-clause-points c p =
    let v = c.x1.ensures.valid in
    let r = c.args.rect.now in
    ap (λ (o : Option Rectangle). held_by o p) (c.ok.ensures.value ∙ c.new.ensures)
    ∙ part_points r v c.args.x1 c.args.y1 c.args.x2 c.args.y2 _ _ _ _
    (greater_end c.args.x1 r.x1 c.x1.result c.from.result c.max.result c.ranges.x1 v.left (omega (arith, ints)) c.x1.ensures.value c.from.ensures c.max.ensures.value (record { sfits = c.max.type_inv }))
    (greater_end c.args.y1 r.y1 c.y1.result c.from-2.result c.max-2.result c.ranges.y1 v.lower (omega (arith, ints)) c.y1.ensures c.from-2.ensures c.max-2.ensures.value (record { sfits = c.max-2.type_inv }))
    (lesser_end c.args.x2 r.x2 c.x2.result c.from-3.result c.min.result c.ranges.x2 (omega (arith, ints)) v.right c.x2.ensures c.from-3.ensures c.min.ensures.value (record { sfits = c.min.type_inv }))
    (lesser_end c.args.y2 r.y2 c.y2.result c.from-4.result c.min-2.result c.ranges.y2 (omega (arith, ints)) v.upper c.y2.ensures c.from-4.ensures c.min-2.ensures.value (record { sfits = c.min-2.type_inv }))
    p
