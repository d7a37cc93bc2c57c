use Rattle.sp_granule.specs.Granules.{granules}
use Rattle.sp_protection.proofs.replays.marks_are_owned.Goals as goal
use Rattle.sp_protection.proofs.Commits.{locks_leave_marks}
use Rattle.sp_protection.proofs.Marking.{commit_keeps_marks_owned, rollback_keeps_marks_owned, operation_keeps_marks_owned}

pub returns-clause-commit : goal.returns-clause-commit
returns-clause-commit c = λ tree. commit_keeps_marks_owned (granules tree)

pub returns-clause-rollback : goal.returns-clause-rollback
returns-clause-rollback c = λ tree. rollback_keeps_marks_owned (granules tree)

pub returns-clause-operation : goal.returns-clause-operation
returns-clause-operation c = λ tree. operation_keeps_marks_owned (granules tree)

pub returns-clause-apart : goal.returns-clause-apart
returns-clause-apart c = locks_leave_marks
