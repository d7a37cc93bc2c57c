use Rattle.std.proofs.Common.{◌∙◌, arith}
use Rattle.std.proofs.lemmas.Int.{ints}
use Rattle.sp_region.proofs.Strips.{right_points}
use Rattle.sp_region.proofs.cut.right_strip.Goals as goal

pub returns : goal.returns
returns c p = c.part.ensures.points p ∙ right_points c.args.rect.now c.part.ensures.valid c.args.other.now p _ (omega (arith, ints))
