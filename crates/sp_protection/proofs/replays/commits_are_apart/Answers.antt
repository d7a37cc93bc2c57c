use Rattle.sp_protection.proofs.replays.commits_are_apart.Goals as goal
use Rattle.sp_protection.proofs.Commits.{commit_shows_view, commit_undisturbed}

pub returns-clause-own : goal.returns-clause-own
returns-clause-own c = commit_shows_view

pub returns-clause-other : goal.returns-clause-other
returns-clause-other c = commit_undisturbed
