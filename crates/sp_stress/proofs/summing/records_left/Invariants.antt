use Rattle.std.proofs.Common.{◌≡◌, [], drop}
use Rattle.sp_rect.specs.Serial.{after_all}
use Rattle.sp_stress.proofs.summing.records_left.Given as goal

abbrev pub invariant-commits : goal.invariant-commits
invariant-commits l = after_all l.plain (drop l.commit-index l.commits) ≡ after_all [] l.commits
