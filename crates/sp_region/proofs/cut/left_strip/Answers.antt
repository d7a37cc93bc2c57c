use Rattle.std.proofs.Common.{◌∙◌, arith}
use Rattle.std.proofs.lemmas.Int.{ints}
use Rattle.sp_region.proofs.Strips.{left_points}
use Rattle.sp_region.proofs.cut.left_strip.Goals as goal

pub returns-clause-points : goal.returns-clause-points
returns-clause-points c p = c.part.ensures.points p ∙ left_points c.args.rect.now c.part.ensures.valid c.args.other.now p _ (omega (arith, ints))
