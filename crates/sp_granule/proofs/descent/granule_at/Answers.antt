use Rattle.std.proofs.Common.{ℕ, sym, subst}
use Rattle.sp_rect.specs.Plane.{point}
use Rattle.sp_granule.specs.Granules.{granules, HasPoint}
use Rattle.sp_granule.proofs.Covering.{covers_space}
use Rattle.sp_granule.proofs.descent.granule_at.Goals as goal

pub returns-clause-has_point : goal.returns-clause-has_point
returns-clause-has_point c =
    let t = c.args.tree.now.table in
    let p = point c.args.p.x c.args.p.y in
    subst (λ (n : ℕ). HasPoint (granules t) n p) (sym c.descend.ensures) (covers_space t p c.requires)
