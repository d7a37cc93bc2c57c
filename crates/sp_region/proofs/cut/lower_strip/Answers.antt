use Rattle.std.proofs.Common.{◌∙◌, arith}
use Rattle.std.proofs.lemmas.Int.{ints}
use Rattle.sp_region.proofs.Strips.{lower_points}
use Rattle.sp_region.proofs.cut.lower_strip.Goals as goal

pub returns : goal.returns
returns c p = c.column.ensures.points p ∙ lower_points c.args.rect.now c.column.ensures.valid c.args.other.now p _ (omega (arith, ints))
