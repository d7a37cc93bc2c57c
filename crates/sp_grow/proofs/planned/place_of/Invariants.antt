use Rattle.std.proofs.Common.{ℕ, ◌<◌}
use Rattle.sp_grow.specs.Overlay.{number_in}
use Rattle.sp_grow.proofs.planned.place_of.Given as goal

abbrev pub invariant-loop-i : goal.invariant-loop-i
invariant-loop-i l = (j : ℕ) → j < l.i → number_in l.parts j < l.number
