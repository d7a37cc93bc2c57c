-- What a row becomes by a release.
use Rattle.std.specs.Prelude.{◌≡◌, true, false, List}
use Rattle.sp_locks.specs.declared.row.Row.{Row}
use Rattle.sp_locks.specs.Modes.{covers}
use Rattle.sp_locks.specs.Soundness.{In}

-- the row has one of its session, name and duration in the list
pub record ComesFrom (rows : List Row) (x : Row) : Type 0 where
  pub row : Row
  pub stands : In row rows
  pub session : row.session ≡ x.session
  pub name : row.name ≡ x.name
  pub duration : row.duration ≡ x.duration

-- a lock of the list covers the row
pub record IsCovered (rows : List Row) (x : Row) : Type 0 where
  pub row : Row
  pub stands : In row rows
  pub held : row.waiting ≡ false
  pub session : row.session ≡ x.session
  pub name : row.name ≡ x.name
  pub duration : row.duration ≡ x.duration
  pub covers : covers row.mode x.mode ≡ true
