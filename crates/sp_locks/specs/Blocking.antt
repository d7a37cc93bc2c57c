-- Who blocks a request, in the words of the lock table's rules.
use Rattle.std.specs.Prelude.{◌≡◌, ◌≢◌, ◌⊎◌, ℕ, ◌<◌, Bool, true, false, nat_eq, List, [], ◌∷◌, Option, None, Some}
use Rattle.std.specs.List.{list_any}
use Rattle.sp_locks.specs.declared.mode.Mode.{Mode}
use Rattle.sp_locks.specs.declared.row.Name.{Name}
use Rattle.sp_locks.specs.declared.row.Row.{Row}
use Rattle.sp_locks.specs.Modes.{compatible}
use Rattle.sp_locks.specs.Table.{held}
use Rattle.sp_locks.specs.Soundness.{In}

abbrev pub member : ℕ → List ℕ → Bool
member u us = list_any (nat_eq u) us

-- each number is below the next
abbrev pub IsAscending : List ℕ → Type 0
IsAscending [] = Unit {0}
IsAscending (x ∷ []) = Unit {0}
IsAscending (x ∷ y ∷ ys) = (x < y) × IsAscending (y ∷ ys)

-- the mode is compatible with what is held, where anything is
abbrev pub is_compatible_with : Mode → Option Mode → Bool
is_compatible_with m None = true
is_compatible_with m (Some h) = compatible m h

-- the session waits on the name for a mode that is incompatible with this one
pub record WaitsAgainst (mode : Mode) (name : Name) (session : ℕ) (rows : List Row) : Type 0 where
  pub row : Row
  pub stands : In row rows
  pub waits : row.waiting ≡ true
  pub on : row.name ≡ name
  pub by : row.session ≡ session
  pub against : compatible mode row.mode ≡ false

-- the other session blocks a request: it holds an incompatible mode on the name or, where the requester holds nothing there, waits for one
abbrev pub Blocks : ℕ → Name → Mode → List Row → ℕ → Type 0
Blocks session name mode rows other = (other ≢ session) × ((is_compatible_with mode (held other name rows) ≡ false) ⊎ ((held session name rows ≡ None) × WaitsAgainst mode name other rows))
