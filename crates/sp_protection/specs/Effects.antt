-- What an operation does to the marks of entries.
use Rattle.std.specs.Prelude.{ℕ, Bool, true, false, ◌&&◌, cond, List, [], ◌∷◌, ◌++◌, map}
use Rattle.sp_rect.specs.declared.record.Record.{Record}
use Rattle.sp_rect.specs.declared.operation.Op.{Op}
use Rattle.sp_rect.specs.declared.operation.Op.TheVariants.{Put, Drop, Set, Get, Find, Fill, Clear}
use Rattle.sp_rect.specs.Store.{Part, part_of, touches, within}
use Rattle.sp_node.specs.declared.marks.Made.TheVariants.{By as MadeBy}
use Rattle.sp_node.specs.declared.marks.Ended.TheVariants.{Nobody, By as EndedBy}
use Rattle.sp_node.specs.declared.marks.Draft.TheVariants.{None as NoDraft, Of}
use Rattle.sp_node.specs.declared.marks.Marks.{Marks}
use Rattle.sp_node.specs.declared.node.Entry.{Entry}
use Rattle.sp_node.specs.Marks.{marked}
use Rattle.sp_txn.specs.Visible.{is_visible, record_for, view}

-- the transaction sees the entry, and the part has it
abbrev pub is_seen_in : ℕ → Part → Entry → Bool
is_seen_in txn part e = is_visible txn e && touches part (record_for txn e)

-- the operation changes the marks of the entries that it looks at
abbrev pub is_marking : Op → Bool
is_marking (Put r) = false
is_marking (Drop id) = true
is_marking (Set id value) = true
is_marking (Get id) = false
is_marking (Find rect) = false
is_marking (Fill rect value) = true
is_marking (Clear rect) = true

-- the operation of the transaction changes the marks of the entry
abbrev pub is_changed : ℕ → Op → Entry → Bool
is_changed txn op e = is_marking op && is_seen_in txn (part_of op) e

abbrev pub ended_by : ℕ → Marks → Marks
ended_by txn m = record { made = m.made; ended = EndedBy txn; draft = m.draft }

abbrev pub drafted_by : ℕ → List ℕ → Marks → Marks
drafted_by txn value m = record { made = m.made; ended = m.ended; draft = Of txn value }

-- the marks that it gives to an entry which it changes: a drop and a clear end it, a set and a fill give it a draft
abbrev pub marks_by : ℕ → Op → Marks → Marks
marks_by txn (Put r) m = m
marks_by txn (Drop id) m = ended_by txn m
marks_by txn (Set id value) m = drafted_by txn value m
marks_by txn (Get id) m = m
marks_by txn (Find rect) m = m
marks_by txn (Fill rect value) m = drafted_by txn value m
marks_by txn (Clear rect) m = ended_by txn m

-- the entry after the operation
abbrev pub marked_by : ℕ → Op → Entry → Entry
marked_by txn op e = cond (is_changed txn op e) (marked (marks_by txn op e.marks) e) e

-- the new entry of a put
abbrev pub fresh : ℕ → ℕ → Record → Entry
fresh txn number r = record { number = number; id = r.id; rect = r.rect; value = r.value; marks = record { made = MadeBy txn; ended = Nobody; draft = NoDraft } }

-- the new entry, where the put finds no record of its id
abbrev pub entered : ℕ → ℕ → Op → List Record → List Entry
entered txn number (Put r) [] = fresh txn number r ∷ []
entered txn number op found = []

-- the entries after the operation of the transaction
abbrev pub applied : ℕ → ℕ → Op → List Entry → List Entry
applied txn number op es = entered txn number op (within (part_of op) (view es txn)) ++ map (marked_by txn op) es
