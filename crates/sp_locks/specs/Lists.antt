-- The names on which each session may have rows.
use Rattle.std.specs.Prelude.{◌≡◌, ℕ, Bool, true, if◌then◌else◌, nat_eq, List, [], Option, None, Some}
use Rattle.std.specs.List.{list_any}
use Rattle.std.specs.Map.{lookup}
use Rattle.sp_locks.specs.declared.row.Name.{Name}
use Rattle.sp_locks.specs.declared.row.Row.{Row}
use Rattle.sp_locks.specs.Rows.{same_name, is_short}
use Rattle.sp_locks.specs.Soundness.{In}

module _ {V : Type 0} (items : V → List Name) where
  abbrev pub names_of_list : Option V → List Name
  names_of_list None = []
  names_of_list (Some v) = items v

  -- the names of a session
  abbrev pub names_at : ℕ → List (ℕ × V) → List Name
  names_at session lists = names_of_list (lookup (nat_eq session) lists)

  -- the name is among those of the session
  abbrev pub is_listed : List (ℕ × V) → ℕ → Name → Bool
  is_listed lists session name = list_any (same_name name) (names_at session lists)

  -- the name of the row is among those of its session: among the first for commit, among the second if it is short
  abbrev pub is_row_listed : List (ℕ × V) → List (ℕ × V) → Row → Bool
  is_row_listed commits shorts x = is_listed (if is_short x then shorts else commits) x.session x.name

  -- no name is taken from a list
  abbrev pub KeepsLists : List (ℕ × V) → List (ℕ × V) → Type 0
  KeepsLists old new = (session : ℕ) (name : Name) → is_listed old session name ≡ true → is_listed new session name ≡ true

  -- the other sessions keep their lists, and this one has none
  abbrev pub IsWithout : ℕ → List (ℕ × V) → List (ℕ × V) → Type 0
  IsWithout session old new = (s : ℕ) → names_at s new ≡ (if nat_eq session s then [] else names_at s old)

  -- each row is listed: one for commit among the first, a short one among the second
  abbrev pub AreListed : List (ℕ × V) → List (ℕ × V) → List Row → Type 0
  AreListed commits shorts rows = (x : Row) → In x rows → is_listed (if is_short x then shorts else commits) x.session x.name ≡ true
