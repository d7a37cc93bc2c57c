use Rattle.std.proofs.Common.{◌∙◌, ◌&&◌, ap, arith}
use Rattle.std.proofs.lemmas.Int.{ints}
use Rattle.sp_rect.specs.Plane.{Rectangle, corners, holds}
use Rattle.sp_region.proofs.Parts.{same_corners}
use Rattle.sp_region.proofs.cut.column.Goals as goal

pub returns-clause-points : goal.returns-clause-points
returns-clause-points c p =
    let v = c.x1.ensures.valid in
    let o = c.args.other.now in
    c.part.ensures.points p
    ∙ ap (λ (r : Rectangle). holds c.args.rect.now p && holds r p) (same_corners (corners o.x1 c.args.y1 o.x2 c.args.y2) (omega (arith, ints)) (omega (arith, ints)) (omega (arith, ints)) (omega (arith, ints)))
