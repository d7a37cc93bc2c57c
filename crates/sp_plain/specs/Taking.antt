-- Changes of records, one after the other: the one definition of what a list of changes does.
use Rattle.std.specs.Prelude.{ℕ, Bool, not, ◌&&◌, nat_lt, if◌then◌else◌, List, [], ◌∷◌, length, Option, Some, None}
use Rattle.sp_list.specs.Emptiness.{is_empty}
use Rattle.sp_rect.specs.Store.{Id, within, without, written, with_record}
use Rattle.sp_rect.specs.declared.record.Record.{Record}
use Rattle.sp_plain.specs.declared.change.Change.{Change}
use Rattle.sp_plain.specs.declared.change.Change.TheVariants.{Put, Drop, Set}

-- the most records that changes may make
abbrev pub most_records : ℕ
most_records = 1048576

-- a record of the id is there
abbrev pub is_there : ℕ → List Record → Bool
is_there id records = not (is_empty (within (Id id) records))

-- the change can be made: a put needs a free id and room for one more, the others a record of the id
abbrev pub can_change : Change → List Record → Bool
can_change (Put r) records = not (is_there r.id records) && nat_lt (length records) most_records
can_change (Drop id) records = is_there id records
can_change (Set id value) records = is_there id records

-- the records that it leaves
abbrev pub left_by : Change → List Record → List Record
left_by (Put r) records = with_record r records
left_by (Drop id) records = without (Id id) records
left_by (Set id value) records = written (Id id) value records

-- the records after all changes in order, or none where one of them can't be made
abbrev pub taken : List Change → List Record → Option (List Record)
taken [] records = Some records
taken (c ∷ changes) records = if can_change c records then taken changes (left_by c records) else None
