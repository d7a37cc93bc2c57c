use Rattle.std.proofs.Common.{◌≡◌, drop}
use Rattle.sp_rect.specs.Serial.{records_after}
use Rattle.sp_stress.proofs.summing.run_pairs.Given as goal

abbrev pub invariant-pairs : goal.invariant-pairs
invariant-pairs l = records_after l.plain (drop l.pair-index l.pairs) ≡ records_after l.fn.plain l.pairs
