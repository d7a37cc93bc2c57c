-- The entries that bear a transaction's marks, and the room for marks.
use Rattle.std.specs.Prelude.{◌≡◌, ℕ, ◌<◌, ◌≤◌, true, false, ◌&&◌, cond, nat_eq, List, map}
use Rattle.std.specs.List.{filter}
use Rattle.sp_node.specs.declared.node.Entry.{Entry}
use Rattle.sp_node.specs.Among.{Among}
use Rattle.sp_node.specs.Known.{is_known}
use Rattle.sp_node.specs.Marks.{is_marked}
use Rattle.sp_node.specs.Plan.{Roomy}
use Rattle.sp_node.specs.Table.{Table, entries_of}

-- the numbers of the entries that bear a mark of the transaction
unfoldable pub entries_marked : Table → ℕ → List ℕ
entries_marked t txn = map (λ e. e.number) (filter (is_marked txn) (entries_of t))

-- no entry from this number on bears a mark of the transaction
abbrev pub HasNoMarkFrom : Table → ℕ → ℕ → Type 0
HasNoMarkFrom t txn start = (e : Entry) → Among e (entries_of t) → start ≤ e.number → is_marked txn e ≡ false

-- the number is the least from this one on whose entry bears a mark of the transaction
pub record IsNextMarked (t : Table) (txn start number : ℕ) : Type 0 where
  pub entry : Entry
  pub among : Among entry (entries_of t)
  pub named : entry.number ≡ number
  pub marked : is_marked txn entry ≡ true
  pub within : start ≤ number
  pub least : (e : Entry) → Among e (entries_of t) → start ≤ e.number → e.number < number → is_marked txn e ≡ false

-- the room for nodes and entries is the same
pub record IsRoomSame (before after : Roomy) : Type 0 where
  pub nodes : after.node_room ≡ before.node_room
  pub entries : after.entry_room ≡ before.entry_room
  pub ids : after.known ≡ before.known

-- what was noted is noted
abbrev pub IsNotedKept : Roomy → Roomy → Type 0
IsNotedKept before after = (t n : ℕ) → is_known before.noted t n ≡ true → is_known after.noted t n ≡ true

-- the pair of the transaction and the entry is not noted, and of the others the same ones are
abbrev pub IsMarkForgotten : ℕ → ℕ → Roomy → Roomy → Type 0
IsMarkForgotten txn number before after = (t n : ℕ) → is_known after.noted t n ≡ cond (nat_eq t txn && nat_eq n number) false (is_known before.noted t n)
