-- Changes that lead back, the last one first.
use Rattle.std.specs.Prelude.{◌≡◌, ℕ, ◌<◌, List, [], ◌∷◌, length}
use Rattle.sp_rect.specs.Store.{Id, within}
use Rattle.sp_rect.specs.declared.record.Record.{Record}
use Rattle.sp_plain.specs.Taking.{left_by}
use Rattle.sp_plain.specs.declared.change.Change.{Change}
use Rattle.sp_plain.specs.declared.change.Change.TheVariants.{Put, Drop, Set}

-- the change can be made without memory, where there is room for so many records
abbrev pub CanMake : ℕ → Change → List Record → Type 0
CanMake room (Put r) records = (within (Id r.id) records ≡ []) × (length records < room)
CanMake room (Drop id) records = Unit {0}
CanMake room (Set id value) records = Unit {0}

-- so can all, one after the other
abbrev pub CanMakeAll : ℕ → List Change → List Record → Type 0
CanMakeAll room [] records = Unit {0}
CanMakeAll room (c ∷ changes) records = CanMake room c records × CanMakeAll room changes (left_by c records)

-- what they leave
abbrev pub left_by_all : List Change → List Record → List Record
left_by_all [] records = records
left_by_all (c ∷ changes) records = left_by_all changes (left_by c records)

-- they can be made and lead to the old records
pub record LeadsBack (room : ℕ) (changes : List Change) (records old : List Record) : Type 0 where
  pub can : CanMakeAll room changes records
  pub back : left_by_all changes records ≡ old
