-- A kernel that was started over the two files of a journal.
use Rattle.std.specs.Prelude.{◌≡◌, ◌≢◌, ◌≤◌, ℕ, Bool, List, if◌then◌else◌}
use Rattle.sp_node.specs.declared.node.Shape.{Shape}
use Rattle.sp_journal.specs.declared.types.Recovered.{Recovered}
use Rattle.sp_journal.specs.Recovery.{Foreign, Damaged, Holds}
use Rattle.sp_pair.specs.Compacting.{first_of, second_of}
use Rattle.sp_pair.specs.Pairs.{IsChosen, RecoversPair}
use Rattle.sp_model.specs.State.{Kernel}
use Rattle.sp_model.specs.Opening.{IsOpened}

-- the kernel that opening gives over the records that the two files hold
pub record IsOpenedOver (main alt : List ℕ) (shape : Shape) (k : Kernel) : Type 0 where
  pub found : Recovered
  pub recovered : RecoversPair main alt (Holds found)
  pub opened : IsOpened shape found.records k

-- two files hold records only where two others held these, and are damaged or foreign only where those were so
pub record ComeFrom (main alt main' alt' : List ℕ) : Type 0 where
  pub records : (after : Recovered) → RecoversPair main' alt' (Holds after) → (found : Recovered) × RecoversPair main alt (Holds found) × (found.records ≡ after.records)
  pub damage : (at : ℕ) → RecoversPair main' alt' (Damaged at) → RecoversPair main alt (Damaged at)
  pub foreign : RecoversPair main' alt' Foreign → RecoversPair main alt Foreign

-- the same, by their roles
abbrev pub RolesComeFrom : Bool → List ℕ → List ℕ → Bool → List ℕ → List ℕ → Type 0
RolesComeFrom b c o b' c' o' = ComeFrom (first_of b c o) (second_of b c o) (first_of b' c' o') (second_of b' c' o')

-- the first of the two is the current one
abbrev pub IsCurrent : Bool → List ℕ → List ℕ → Type 0
IsCurrent b c o = (version generation : ℕ) × IsChosen (first_of b c o) (second_of b c o) b version generation

-- the first of the two is the current one, and not of version 1
abbrev pub IsRenewed : Bool → List ℕ → List ℕ → Type 0
IsRenewed b c o = (version generation : ℕ) × IsChosen (first_of b c o) (second_of b c o) b version generation × (version ≢ 1)
