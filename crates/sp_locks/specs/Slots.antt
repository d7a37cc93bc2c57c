-- The slots of a table: the rows of one name each, in the order in which the names came. One without rows stands for no name.
use Rattle.std.specs.Prelude.{◌≡◌, ◌≢◌, ℕ, zero, suc, Bool, true, false, if◌then◌else◌, List, [], ◌∷◌, ◌++◌, flat_map, Option, None, Some}
use Rattle.std.specs.Map.{lookup}
use Rattle.sp_locks.specs.declared.row.Name.{Name}
use Rattle.sp_locks.specs.declared.row.Scope.{Scope}
use Rattle.sp_locks.specs.declared.row.Row.{Row}
use Rattle.sp_locks.specs.Rows.{same_name, released_in}
use Rattle.sp_locks.specs.Table.{AreOn, rows_on, names_of}

-- the first of the rows is on the name
abbrev pub starts : Name → List Row → Bool
starts name [] = false
starts name (x ∷ xs) = same_name name x.name

-- rows on one name, none of which is among the rest
abbrev pub Leads : List Row → List Row → Type 0
Leads rows rest = (name : Name) → starts name rows ≡ true → AreOn name rows × (rows_on name rest ≡ [])

-- a release is done on the name of these rows as often as it is among the names
abbrev pub worked : Scope → ℕ → List Name → List Row → List Row
worked scope session [] rows = rows
worked scope session (name ∷ names) rows = worked scope session names (if starts name rows then released_in scope session rows else rows)

-- and so on each name
abbrev pub worked_through : Scope → ℕ → List Name → List Row → List Row
worked_through scope session names rows = flat_map (λ n. worked scope session names (rows_on n rows)) (names_of rows)

-- a place is given exactly where there are rows
abbrev pub HasRows : Option ℕ → List Row → Type 0
HasRows None rows = rows ≡ []
HasRows (Some i) rows = rows ≢ []

-- a place, if there was one, is now this
abbrev pub moved : ℕ → Option ℕ → Option ℕ
moved i None = None
moved i (Some k) = Some i

-- the place of one name, if it has one, is now this
abbrev pub IsMoved : Name → ℕ → List (Name × ℕ) → List (Name × ℕ) → Type 0
IsMoved name i old new = (n : Name) → lookup (same_name n) new ≡ (if same_name name n then moved i (lookup (same_name n) old) else lookup (same_name n) old)

-- the name has no place any more
abbrev pub IsForgotten : Name → List (Name × ℕ) → List (Name × ℕ) → Type 0
IsForgotten name old new = (n : Name) → lookup (same_name n) new ≡ (if same_name name n then None else lookup (same_name n) old)

-- the name has a place now
abbrev pub IsPlaced : Name → ℕ → List (Name × ℕ) → List (Name × ℕ) → Type 0
IsPlaced name i old new = (n : Name) → lookup (same_name n) new ≡ (if same_name name n then Some i else lookup (same_name n) old)

module _ {V : Type 0} (items : V → List Row) where
  -- the rows of all slots, one after the other
  abbrev pub rows_of : List V → List Row
  rows_of [] = []
  rows_of (v ∷ vs) = items v ++ rows_of vs

  -- each slot has rows of one name, or none, and no name stands twice
  abbrev pub AreSlots : List V → Type 0
  AreSlots [] = Unit {0}
  AreSlots (v ∷ vs) = Leads (items v) (rows_of vs) × AreSlots vs

  -- the slot at that place has the rows of the name
  abbrev pub IsAt : Name → ℕ → List V → Type 0
  IsAt name i [] = ⊥
  IsAt name zero (v ∷ vs) = starts name (items v) ≡ true
  IsAt name (suc i) (v ∷ vs) = IsAt name i vs

  -- the name has rows at that place, or none
  abbrev pub Stands : Name → Option ℕ → List V → Type 0
  Stands name None vs = rows_on name (rows_of vs) ≡ []
  Stands name (Some i) vs = IsAt name i vs

  -- the names that have places are those that have rows
  abbrev pub AreNames : List (Name × ℕ) → List V → Type 0
  AreNames places vs = (name : Name) → HasRows (lookup (same_name name) places) (rows_on name (rows_of vs))

  -- the places are those of the names that have rows
  abbrev pub ArePlaces : List (Name × ℕ) → List V → Type 0
  ArePlaces places vs = (name : Name) → Stands name (lookup (same_name name) places) vs

  -- the rows of all slots, once a release is done on these names
  abbrev pub made : Scope → ℕ → List Name → List V → List Row
  made scope session names [] = []
  made scope session names (v ∷ vs) = worked scope session names (items v) ++ made scope session names vs
