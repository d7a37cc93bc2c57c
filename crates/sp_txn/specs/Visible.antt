-- Which entries count for whom, and the plain stores that the entries of a tree stand for.
use Rattle.std.specs.Prelude.{ℕ, Bool, ◌&&◌, ◌||◌, not, List, [], ◌∷◌, map, filter}
use Rattle.sp_rect.specs.declared.record.Record.{Record}
use Rattle.sp_rect.specs.Store.{with_record}
use Rattle.sp_node.specs.declared.node.Entry.{Entry}
use Rattle.sp_node.specs.Marks.{is_made_by, is_ended_by, is_committed, is_done, drafted}

-- its record is one of those that the committed transactions left
abbrev pub is_live : Entry → Bool
is_live e = is_committed e.marks.made && not (is_done e.marks.ended)

-- the transaction sees it: it was made by the transaction or is committed, and was not ended by the transaction and is not dead
abbrev pub is_visible : ℕ → Entry → Bool
is_visible txn e = (is_committed e.marks.made || is_made_by txn e.marks.made) && not (is_ended_by txn e.marks.ended || is_done e.marks.ended)

abbrev pub record_of : Entry → Record
record_of e = record { id = e.id; rect = e.rect; value = e.value }

-- the record that the transaction sees: a draft of its own stands for the value
abbrev pub record_for : ℕ → Entry → Record
record_for txn e = record { id = e.id; rect = e.rect; value = drafted txn e.marks.draft e.value }

-- the records by ascending id
abbrev pub sorted : List Record → List Record
sorted [] = []
sorted (r ∷ rs) = with_record r (sorted rs)

-- the records of the committed transactions
abbrev pub live : List Entry → List Record
live es = sorted (map record_of (filter is_live es))

-- the records that the transaction sees
abbrev pub view : List Entry → ℕ → List Record
view es txn = sorted (map (record_for txn) (filter (is_visible txn) es))
