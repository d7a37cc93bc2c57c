use Rattle.sp_locks.proofs.Changing.{released-from, released-covers}
use Rattle.sp_locks.proofs.laws.releases_take_no_other_rows.Goals as goal

pub returns-clause-rows : goal.returns-clause-rows
returns-clause-rows c rows scope session x = released-from scope session rows x

pub returns-clause-locks : goal.returns-clause-locks
returns-clause-locks c rows scope session x = released-covers scope session rows x
