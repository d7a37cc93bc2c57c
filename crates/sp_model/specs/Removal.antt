-- What the kernel rests on of the removal of an entry.
use Rattle.std.specs.Prelude.{ℕ, ◌+◌, ◌<◌, ◌^◌}
use Rattle.sp_node.specs.Look.{IsAscending}
use Rattle.sp_node.specs.Table.{Table, IsValid}
use Rattle.sp_condense.specs.Removal.{IsRemoved}
pub use Rattle.sp_condense.specs.Removal.{KeepsOthers}

-- a removal from a valid tree whose node numbers are within their limit does so
abbrev pub RemovesOne : (Table → ℕ → Table → Type 0) → Type 0
RemovesOne IsRemoved = (t : Table) (number : ℕ) (t' : Table) → IsValid t → IsAscending t.nodes → t.next < 2 ^ 63 + 2 ^ 32 → IsRemoved t number t' → KeepsOthers t number t'

-- t' is t after the removal of the entry of this number, and keeps the others
pub record IsTakenOut (t : Table) (number : ℕ) (t' : Table) : Type 0 where
  pub removed : IsRemoved t number t'
  pub keeps : KeepsOthers t number t'
