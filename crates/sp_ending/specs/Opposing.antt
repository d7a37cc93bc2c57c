-- Held locks that are against a need.
use Rattle.std.specs.Prelude.{◌≡◌, ℕ, ◌≤◌, Bool, true, false, ◌&&◌, not, List, Option, Some, None}
use Rattle.sp_locks.specs.declared.mode.Mode.{Mode}
use Rattle.sp_locks.specs.declared.row.Name.{Name}
use Rattle.sp_locks.specs.declared.row.Name.TheVariants.{Granule}
use Rattle.sp_locks.specs.declared.row.Row.{Row}
use Rattle.sp_locks.specs.declared.needs.Need.{Need}
use Rattle.sp_locks.specs.Modes.{compatible}
use Rattle.sp_locks.specs.Soundness.{In}
use Rattle.sp_locks.specs.Table.{held}
use Rattle.sp_model.specs.Stepped.{IsAgainst}
use Rattle.sp_ending.specs.declared.opposing.Opposed.{Opposed}

-- the row is a held lock that is against the mode
abbrev pub is_against : Mode → Row → Bool
is_against mode row = not row.waiting && not (compatible mode row.mode)

-- the session has such a row, and no lesser one has
pub record IsLeastOf (mode : Mode) (rows : List Row) (s : ℕ) : Type 0 where
  pub row : Row
  pub stands : In row rows
  pub against : is_against mode row ≡ true
  pub by : row.session ≡ s
  pub least : (other : Row) → In other rows → is_against mode other ≡ true → s ≤ other.session

-- the least session that has such a row, where one has
abbrev pub IsLeast : Mode → List Row → Option ℕ → Type 0
IsLeast mode rows None = (row : Row) → In row rows → is_against mode row ≡ false
IsLeast mode rows (Some s) = IsLeastOf mode rows s

abbrev pub IsGranule : Name → Type 0
IsGranule name = (number : ℕ) × (name ≡ Granule number)

-- the least session that holds a lock against the need, and what it holds
pub record IsOpposed (rows : List Row) (need : Need) (o : Opposed) : Type 0 where
  pub on : need.name ≡ Granule o.granule
  pub against : IsAgainst rows need o.holder
  pub least : (s : ℕ) → IsAgainst rows need s → o.holder ≤ s
  pub holds : held o.holder need.name rows ≡ Some o.mode
