-- What holds of every lock table, and of the index of its waiting sessions.
use Rattle.std.specs.Prelude.{◌≡◌, ◌≢◌, ◌⊎◌, ℕ, true, false, nat_eq, List, [], ◌∷◌, ◌++◌, Option, None, Some}
use Rattle.std.specs.Map.{lookup}
use Rattle.sp_locks.specs.declared.row.Name.{Name}
use Rattle.sp_locks.specs.declared.row.Row.{Row}
use Rattle.sp_locks.specs.Modes.{compatible}
use Rattle.sp_locks.specs.Rows.{is_blocked, waiting_in}
use Rattle.sp_locks.specs.Table.{rows_on}

-- the row stands in the list
abbrev pub In : Row → List Row → Type 0
In x [] = ⊥
In x (y ∷ ys) = (y ≡ x) ⊎ In x ys

-- the first row stands before the second
abbrev pub Before : Row → Row → List Row → Type 0
Before x r [] = ⊥
Before x r (y ∷ ys) = ((y ≡ x) × In r ys) ⊎ Before x r ys

-- of these rows on one name, those that different sessions hold are compatible
abbrev pub HeldCompatible : List Row → Type 0
HeldCompatible rows = (a b : Row) → In a rows → In b rows → a.waiting ≡ false → b.waiting ≡ false → a.session ≢ b.session → compatible a.mode b.mode ≡ true

-- of these rows on one name, each that waits is blocked between those before and those behind it
abbrev pub WaitersBlocked : List Row → Type 0
WaitersBlocked rows = (before after : List Row) (r : Row) → rows ≡ before ++ r ∷ after → r.waiting ≡ true → is_blocked before after r.session r.mode ≡ true

-- no two waiting rows are of one session
abbrev pub WaitOnce : List Row → Type 0
WaitOnce rows = (x r : Row) → Before x r rows → x.waiting ≡ true → r.waiting ≡ true → x.session ≢ r.session

-- what holds of every lock table
pub record IsSound (rows : List Row) : Type 0 where
  pub compatible : (name : Name) → HeldCompatible (rows_on name rows)
  pub blocked : (name : Name) → WaitersBlocked (rows_on name rows)
  pub once : WaitOnce rows

abbrev pub name_of : Option Row → Option Name
name_of None = None
name_of (Some r) = Some r.name

-- the entries tell of each session the name on which it waits
abbrev pub AreWaits : List (ℕ × Name) → List Row → Type 0
AreWaits entries rows = (session : ℕ) → lookup (nat_eq session) entries ≡ name_of (waiting_in session rows)
