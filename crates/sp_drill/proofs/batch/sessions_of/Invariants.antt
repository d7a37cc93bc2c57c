use Rattle.std.proofs.Common.{◌≡◌, map, take}
use Rattle.sp_rect.specs.declared.commit.Commit.{Commit}
use Rattle.sp_drill.proofs.batch.sessions_of.Given as goal

abbrev pub invariant-loop-commit : goal.invariant-loop-commit
invariant-loop-commit l = l.sessions.items ≡ map (λ (c : Commit). c.session) (take l.commit-index l.commits)
