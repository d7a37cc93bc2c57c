use Rattle.std.proofs.Common.{◌≡◌, take}
use Rattle.sp_model.specs.Stepped.{last_place}
use Rattle.sp_ending.proofs.queueing.last_place.Given as goal

abbrev pub invariant-back : goal.invariant-back
invariant-back l = last_place l.session l.commits 0 ≡ last_place l.session (take l.i l.commits) 0
