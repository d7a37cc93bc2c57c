-- Where a record stands in a list by ascending id.
use Rattle.std.specs.Prelude.{◌≡◌, ℕ, ◌<◌, suc, nat_le, if◌then◌else◌, List, [], ◌∷◌, length, slice_index_or}
use Rattle.sp_rect.specs.declared.record.Record.{Record}

-- how many records stand in front of the first whose id is not below this one
abbrev pub place : ℕ → List Record → ℕ
place id [] = 0
place id (r ∷ rs) = if nat_le id r.id then 0 else suc (place id rs)

-- the record of the id stands at that place
pub record StandsAt (id : ℕ) (records : List Record) (at : ℕ) : Type 0 where
  pub within : at < length records
  pub named : (d : Record) → (slice_index_or records at d).id ≡ id
