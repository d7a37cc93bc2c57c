-- Who waits for whom, in the words of the lock table's rules.
use Rattle.std.specs.Prelude.{◌≡◌, ◌≢◌, ◌⊎◌, ℕ, true, false, List, None, Some}
use Rattle.sp_locks.specs.declared.row.Row.{Row}
use Rattle.sp_locks.specs.Modes.{compatible}
use Rattle.sp_locks.specs.Rows.{waiting_in}
use Rattle.sp_locks.specs.Table.{rows_on, held}
use Rattle.sp_locks.specs.Soundness.{Before}
use Rattle.sp_locks.specs.Blocking.{is_compatible_with}

-- the session has a waiting row before this one on its name, for a mode that is incompatible with its mode
pub record WaitsBefore (rows : List Row) (session : ℕ) (row : Row) : Type 0 where
  pub earlier : Row
  pub by : earlier.session ≡ session
  pub waits : earlier.waiting ≡ true
  pub against : compatible row.mode earlier.mode ≡ false
  pub before : Before earlier row (rows_on row.name rows)

-- the first session waits for the second, which holds an incompatible mode or, where the first holds nothing on the name, waits there for one and came earlier
pub record WaitsFor (rows : List Row) (session other : ℕ) : Type 0 where
  pub row : Row
  pub waits : waiting_in session rows ≡ Some row
  pub apart : other ≢ session
  pub how : (is_compatible_with row.mode (held other row.name rows) ≡ false) ⊎ ((held session row.name rows ≡ None) × WaitsBefore rows other row)
