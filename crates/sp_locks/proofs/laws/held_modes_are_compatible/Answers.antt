use Rattle.sp_locks.specs.Table.{rows_on}
use Rattle.sp_locks.proofs.Blocking.{held-compatible}
use Rattle.sp_locks.proofs.laws.held_modes_are_compatible.Goals as goal

pub returns : goal.returns
returns c rows name one other a b sound = held-compatible (rows_on name rows) one other a b (sound.compatible name)
