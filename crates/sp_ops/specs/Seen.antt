-- The entries that an operation of a transaction looks at.
use Rattle.std.specs.Prelude.{◌≡◌, ℕ, Bool, false, List, map, filter, length, Option, None, Some}
use Rattle.std.specs.List.{filter_map}
use Rattle.std.specs.List.Sorted.{IsPermutation}
use Rattle.sp_rect.specs.declared.record.Record.{Record}
use Rattle.sp_rect.specs.Store.{Part, touches, IsOrdered}
use Rattle.sp_node.specs.declared.node.Entry.{Entry}
use Rattle.sp_node.specs.declared.node.Node.{Node}
use Rattle.sp_node.specs.Index.{entry_of}
use Rattle.sp_node.specs.Table.{Table, entries_of}
use Rattle.sp_txn.specs.Visible.{is_visible, record_of, record_for}
use Rattle.sp_protection.specs.Effects.{is_seen_in}

-- the entry's record is in the part
abbrev pub is_in : Part → Entry → Bool
is_in part e = touches part (record_of e)

-- the numbers of the entries in the part
abbrev pub numbers_in : Table → Part → List ℕ
numbers_in t part = map (λ e. e.number) (filter (is_in part) (entries_of t))

-- the numbers of those that the transaction sees
abbrev pub numbers_seen : Table → ℕ → Part → List ℕ
numbers_seen t txn part = map (λ e. e.number) (filter (is_seen_in txn part) (entries_of t))

-- there is an entry, and the transaction sees it
abbrev pub sees : ℕ → Option Entry → Bool
sees txn None = false
sees txn (Some e) = is_visible txn e

-- the entries of these numbers, in order
abbrev pub entries_at : List (ℕ × Node) → List ℕ → List Entry
entries_at nodes numbers = filter_map (entry_of nodes) numbers

-- the records that the transaction sees in the entries of these numbers, by ascending id
pub record AreRecordsAt (nodes : List (ℕ × Node)) (txn : ℕ) (numbers : List ℕ) (found : List Record) : Type 0 where
  pub ordered : IsOrdered found
  pub same : IsPermutation (map (record_for txn) (entries_at nodes numbers)) found
  pub as_many : length found ≡ length numbers
