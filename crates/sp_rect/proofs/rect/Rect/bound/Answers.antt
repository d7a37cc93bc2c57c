use Rattle.std.proofs.Common.{arith}
use Rattle.std.proofs.lemmas.Int.{ints, clamps}
use Rattle.sp_rect.proofs.Corners.{bound_stored}
use Rattle.sp_rect.proofs.rect.Rect.bound.Goals as goal

pub invariant_of-result : goal.invariant_of-result
invariant_of-result c = record {
  left = omega (arith, ints, clamps);
  across = omega (arith, ints, clamps);
  right = omega (arith, ints, clamps);
  lower = omega (arith, ints, clamps);
  along = omega (arith, ints, clamps);
  upper = omega (arith, ints, clamps);
}

pub returns : goal.returns
returns c = bound_stored _ _ _ _ c.self.invariant c.other.invariant c.self.view_is c.other.view_is _ _ _ _ c.min.ensures.value c.min-2.ensures.value c.max.ensures.value c.max-2.ensures.value
