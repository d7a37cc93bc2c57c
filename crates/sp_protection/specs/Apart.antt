-- Operations on two stores that differ only where the operations do not look.
use Rattle.std.specs.Prelude.{◌≡◌, ◌≢◌, ◌⊎◌, ◌↔◌, ℕ, ◌≤◌, List, [], length}
use Rattle.sp_rect.specs.declared.record.Record.{Record}
use Rattle.sp_rect.specs.declared.operation.Answered.{Answered}
use Rattle.sp_rect.specs.Store.{Part, Id, Area, part_of, within}
use Rattle.sp_rect.specs.Serial.{records_after, RepliesAsPlain}
use Rattle.sp_node.specs.Among.{Among}

-- an operation that looks at the part leaves the id alone, as it stands in these records
abbrev pub IsApart : Part → ℕ → List Record → Type 0
IsApart (Id other) id records = other ≢ id
IsApart (Area rect) id records = within (Area rect) (within (Id id) records) ≡ []

-- all the operations leave it alone
abbrev pub AreApart : List Answered → ℕ → List Record → Type 0
AreApart pairs id records = (pair : Answered) → Among pair pairs → IsApart (part_of pair.op) id records

-- two stores have the same record of the id, or none
abbrev pub SameAt : ℕ → List Record → List Record → Type 0
SameAt id records others = within (Id id) records ≡ within (Id id) others

-- two stores differ only at ids that the operations leave alone
abbrev pub DifferApart : List Answered → List Record → List Record → Type 0
DifferApart pairs records others = (id : ℕ) → SameAt id records others ⊎ (AreApart pairs id records × AreApart pairs id others)

-- the operations give the same replies on both, change both alike where they were alike, and leave alone what they do not look at
pub record Undisturbed (pairs : List Answered) (records others : List Record) : Type 0 where
  pub same_replies : RepliesAsPlain records pairs ↔ RepliesAsPlain others pairs
  pub same_changes : (id : ℕ) → SameAt id records others → SameAt id (records_after records pairs) (records_after others pairs)
  pub left_alone : (id : ℕ) → AreApart pairs id records → SameAt id (records_after records pairs) records

-- no id has two records
abbrev pub HasOneEach : List Record → Type 0
HasOneEach records = (id : ℕ) → length (within (Id id) records) ≤ 1
