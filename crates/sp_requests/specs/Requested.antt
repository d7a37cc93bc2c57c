-- What a request for a lock comes to.
use Rattle.std.specs.Prelude.{◌≡◌, ◌≢◌, ℕ, true, false, List, [], Option, Some, None}
use Rattle.sp_locks.specs.declared.needs.Need.{Need}
use Rattle.sp_locks.specs.declared.row.Row.{Row}
use Rattle.sp_locks.specs.declared.row.Scope.TheVariants.{ShortLocks}
use Rattle.sp_locks.specs.Table.{blockers, row_of, with_row_on, released}
use Rattle.sp_waits.specs.declared.edge.Edge.{Edge}
use Rattle.sp_waits.specs.Cycles.{IsToldCycle}
use Rattle.sp_requests.specs.declared.requesting.Outcome.{Outcome}
use Rattle.sp_requests.specs.declared.requesting.Outcome.TheVariants.{Granted, Waits, Closes}

-- who blocks the session's request for the lock once its short locks are gone
unfoldable pub blocking : ℕ → Need → List Row → List ℕ
blocking s need rows = blockers s need.name need.mode (released ShortLocks s rows)

-- the session holds the lock
unfoldable pub with_lock_of : ℕ → Need → List Row → List Row
with_lock_of s need rows = with_row_on (row_of s need.name need.mode need.duration false) rows

-- the session has a row that waits for it, and its short locks are gone
unfoldable pub with_wait_of : ℕ → Need → List Row → List Row
with_wait_of s need rows = with_row_on (row_of s need.name need.mode need.duration true) (released ShortLocks s rows)

-- what a wait for the lock closes
unfoldable pub IsClosed : ℕ → Need → List Row → Option (List Edge) → Type 0
IsClosed s need rows told = IsToldCycle (released ShortLocks s rows) s need.name need.mode told

-- the session gets the lock, waits for it without its short locks, or would close a cycle, which leaves the rows as they are
pub data ComesTo (s : ℕ) (need : Need) (rows : List Row) : Outcome → List Row → Type 0 where
  IsGranted : blocking s need rows ≡ [] → ComesTo s need rows Granted (with_lock_of s need rows)
  HasToWait : blocking s need rows ≢ [] → IsClosed s need rows None → ComesTo s need rows (Waits (blocking s need rows)) (with_wait_of s need rows)
  ClosesCycle : (cycle : List Edge) → blocking s need rows ≢ [] → IsClosed s need rows (Some cycle) → ComesTo s need rows (Closes cycle) rows
