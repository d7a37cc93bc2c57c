-- The plain store: a list of records by ascending id, and what an operation replies and leaves. Each
-- operation looks at one part of the records, and reply and change are functions of what it finds there.
use Rattle.std.specs.Prelude.{ℕ, ◌+◌, ◌≤◌, Bool, not, if◌then◌else◌, nat_eq, nat_le, List, [], ◌∷◌, map, filter, length}
use Rattle.sp_rect.specs.Plane.{Rectangle, meets}
use Rattle.sp_rect.specs.declared.record.Record.{Record}
use Rattle.sp_rect.specs.declared.operation.Op.{Op}
use Rattle.sp_rect.specs.declared.operation.Op.TheVariants.{Put, Drop, Set, Get, Find, Fill, Clear}
use Rattle.sp_rect.specs.declared.operation.Reply.{Reply}
use Rattle.sp_rect.specs.declared.operation.Reply.TheVariants.{Done, Exists, Absent, Rec, Found, Count}

-- what an operation looks at: the record of an id, or the records that meet a rectangle
pub data Part : Type 0 where
  Id : ℕ → Part
  Area : Rectangle → Part

abbrev pub part_of : Op → Part
part_of (Put r) = Id r.id
part_of (Drop id) = Id id
part_of (Set id value) = Id id
part_of (Get id) = Id id
part_of (Find rect) = Area rect
part_of (Fill rect value) = Area rect
part_of (Clear rect) = Area rect

-- the record is in the part
abbrev pub touches : Part → Record → Bool
touches (Id id) r = nat_eq r.id id
touches (Area rect) r = meets r.rect rect

-- the records of the part
abbrev pub within : Part → List Record → List Record
within part records = filter (touches part) records

-- the records outside the part
abbrev pub without : Part → List Record → List Record
without part records = filter (λ r. not (touches part r)) records

-- the value written into each record of the part
abbrev pub with_value : Part → List ℕ → Record → Record
with_value part value r = if touches part r then record { id = r.id; rect = r.rect; value = value } else r

abbrev pub written : Part → List ℕ → List Record → List Record
written part value records = map (with_value part value) records

-- the records with one more, in front of the first whose id is not below its own
abbrev pub with_record : Record → List Record → List Record
with_record r [] = r ∷ []
with_record r (x ∷ xs) = if nat_le r.id x.id then r ∷ x ∷ xs else x ∷ with_record r xs

-- the reply, by the records that the operation finds in its part
abbrev pub reply_to : Op → List Record → Reply
reply_to (Put r) [] = Done
reply_to (Put r) (found ∷ rest) = Exists
reply_to (Drop id) [] = Absent
reply_to (Drop id) (found ∷ rest) = Done
reply_to (Set id value) [] = Absent
reply_to (Set id value) (found ∷ rest) = Done
reply_to (Get id) [] = Absent
reply_to (Get id) (found ∷ rest) = Rec found
reply_to (Find rect) found = Found found
reply_to (Fill rect value) found = Count (length found)
reply_to (Clear rect) found = Count (length found)

-- the records that the operation leaves, by those that it finds in its part
abbrev pub changed : Op → List Record → List Record → List Record
changed (Put r) [] records = with_record r records
changed (Put r) (found ∷ rest) records = records
changed (Drop id) found records = without (Id id) records
changed (Set id value) found records = written (Id id) value records
changed (Get id) found records = records
changed (Find rect) found records = records
changed (Fill rect value) found records = written (Area rect) value records
changed (Clear rect) found records = without (Area rect) records

-- one operation: its reply, and the records after it
abbrev pub replied : Op → List Record → Reply
replied op records = reply_to op (within (part_of op) records)

abbrev pub after : Op → List Record → List Record
after op records = changed op (within (part_of op) records) records

-- the ids are ascending, and at least low; they need not be distinct
abbrev pub IsAscendingFrom : ℕ → List Record → Type 0
IsAscendingFrom low [] = Unit {0}
IsAscendingFrom low (r ∷ rs) = (low ≤ r.id) × IsAscendingFrom r.id rs

-- the ids are strictly ascending: distinct, and in order
abbrev pub IsOrderedFrom : ℕ → List Record → Type 0
IsOrderedFrom low [] = Unit {0}
IsOrderedFrom low (r ∷ rs) = (low ≤ r.id) × IsOrderedFrom (r.id + 1) rs

abbrev pub IsOrdered : List Record → Type 0
IsOrdered records = IsOrderedFrom 0 records
