use Rattle.std.proofs.Common.{filter}
use Rattle.sp_locks.specs.Rows.{stops, holds_in}
use Rattle.sp_locks.specs.Table.{rows_on}
use Rattle.sp_locks.proofs.Blocking.{blockers-block, block-blockers, sessions-ascending}
use Rattle.sp_locks.proofs.laws.holders_and_earlier_waiters_block.Goals as goal

pub returns-clause-exactly : goal.returns-clause-exactly
returns-clause-exactly c rows session other name mode = (blockers-block rows session other name mode, block-blockers rows session other name mode)

pub returns-clause-ascending : goal.returns-clause-ascending
returns-clause-ascending c rows session name mode = sessions-ascending (filter (stops (holds_in session (rows_on name rows)) session mode) (rows_on name rows))
