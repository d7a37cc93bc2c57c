-- A kernel that runs over the current one of two files keeps it the current one.
use Rattle.std.specs.Prelude.{◌≡◌, ℕ, Bool, List}
use Rattle.sp_journal.specs.Kinds.{KeepsKind}
use Rattle.sp_pair.specs.Compacting.{first_of, second_of}
use Rattle.sp_pair.specs.Pairs.{IsChosen}

-- The one file was chosen beside the other as that one reads. What a stop leaves of the one keeps the kind that it had then, and of the other it leaves what a read gives.
pub record IsBeside (is_alt : Bool) (other : List ℕ) (leaves leaves' : List ℕ → Type 0) : Type 0 where
  pub current : List ℕ
  pub version : ℕ
  pub generation : ℕ
  pub chosen : IsChosen (first_of is_alt current other) (second_of is_alt current other) is_alt version generation
  pub kept : (file : List ℕ) → leaves file → KeepsKind current file
  pub other_only : (file : List ℕ) → leaves' file → file ≡ other
