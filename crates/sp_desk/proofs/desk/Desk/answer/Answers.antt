use Rattle.sp_desk.proofs.Telling.{told_so, ok_map, begins_so, commits_so, operates_so}
use Rattle.sp_desk.proofs.desk.Desk.answer.Goals as goal

pub returns-in-Begin-clause-does : goal.returns-in-Begin-clause-does
returns-in-Begin-clause-does g c = told_so _ _ _ c.told.ensures.told (begins_so _ _ _ _ _ _ c.in-Begin.is c.step.ensures.answers)

pub returns-in-Do-clause-does : goal.returns-in-Do-clause-does
returns-in-Do-clause-does g c = ok_map _ _ _ (λ a h. operates_so _ _ _ _ a _ c.in-Do.op _ c.in-Do.is h) c.operate.ensures.does

pub returns-in_ok-commit-in-Commit-clause-does : goal.returns-in_ok-commit-in-Commit-clause-does
returns-in_ok-commit-in-Commit-clause-does g c = told_so _ _ _ c.told-in-Commit.ensures.told (commits_so _ _ _ _ _ _ c.in-Commit.is c.in_ok-commit-in-Commit.ensures.commits)
