use Rattle.std.proofs.Common.{◌≡◌, take}
use Rattle.sp_model.specs.Stepped.{records_told}
use Rattle.sp_ending.proofs.counts.count_records.Given as goal

abbrev pub invariant-pairs : goal.invariant-pairs
invariant-pairs l = l.told ≡ records_told (take l.pair-index l.pairs)
