-- What is read of a whole file.
use Rattle.std.specs.Prelude.{◌≡◌, ◌≢◌, ◌≤◌, ℕ, List, ◌∷◌, ◌++◌, length}
use Rattle.sp_journal.specs.declared.kind.Kind.{Kind}
use Rattle.sp_journal.specs.declared.kind.Kind.TheVariants.{Empty, Foreign, Unfinished, Settled}
use Rattle.sp_journal.specs.declared.scanned.Scan.{Scan}
use Rattle.sp_journal.specs.declared.types.Recovered.{Recovered}
use Rattle.sp_rect.specs.declared.record.Record.{Record}
use Rattle.sp_rect.specs.Store.{IsOrdered}
use Rattle.sp_plain.specs.Taking.{most_records}
use Rattle.sp_journal.specs.Kinds.{IsKind}
use Rattle.sp_journal.specs.Recovery.{Base, IsBase, head, nothing}

-- The file is the header and entries of the base, and behind them a closed gate at that offset. A file of generation
-- 2 or more has its checkpoint.
pub record Rests (file : List ℕ) (end : ℕ) (base : Base) : Type 0 where
  pub is : IsBase base
  pub begun : 2 ≤ base.generation → 1 ≤ length base.front
  pub place : end ≡ length (head base)
  pub gate : ℕ
  pub tail : List ℕ
  pub shut : gate ≢ 1
  pub stands : file ≡ head base ++ gate ∷ tail

-- what a file of that kind holds
abbrev pub Held : Kind → List ℕ → ℕ → Recovered → Type 0
Held Empty file end found = (found ≡ nothing) × (end ≡ 16)
Held Unfinished file end found = (found ≡ nothing) × (end ≡ 16)
Held Foreign file end found = ⊥
Held (Settled version generation) file end found = (base : Base) × (base.version ≡ version) × (base.generation ≡ generation) × (base.found ≡ found) × Rests file end base

-- the file is of that kind and holds that
pub record IsScan (file : List ℕ) (scan : Scan) : Type 0 where
  pub kind : IsKind file scan.kind
  pub held : Held scan.kind file scan.end scan.found

-- records that a journal may hold: by strictly ascending id, and no more than it takes
abbrev pub AreHeld : List Record → Type 0
AreHeld records = IsOrdered records × (length records ≤ most_records)
