use Rattle.std.proofs.Common.{◌∙◌, ◌&&◌, ap, arith}
use Rattle.std.proofs.lemmas.Int.{ints}
use Rattle.sp_rect.specs.Plane.{Rectangle, holds}
use Rattle.sp_region.proofs.Parts.{same_corners, some_shared}
use Rattle.sp_region.proofs.cut.common.Goals as goal

pub returns-clause-points : goal.returns-clause-points
returns-clause-points c p =
    let v = c.x1.ensures.valid in
    c.part.ensures.points p
    ∙ ap (λ (r : Rectangle). holds c.args.a.now p && holds r p) (same_corners c.args.b.now (omega (arith, ints)) (omega (arith, ints)) (omega (arith, ints)) (omega (arith, ints)))

pub returns-clause-some : goal.returns-clause-some
returns-clause-some c = some_shared c.args.a.now c.args.b.now c.part.result (returns-clause-points c) c.part.ensures.valid c.x1.ensures.valid c.part.ensures.some
