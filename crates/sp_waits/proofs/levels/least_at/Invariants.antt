use Rattle.std.proofs.Common.{◌≡◌, drop}
use Rattle.sp_waits.specs.Levels.{is_at, least}
use Rattle.sp_waits.proofs.levels.least_at.Given as goal

abbrev pub invariant-back : goal.invariant-back
invariant-back l = l.found ≡ least (λ v. is_at v l.steps l.reached) (drop l.i l.sessions)
