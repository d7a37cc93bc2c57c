-- What two files of one journal hold together.
use Rattle.std.specs.Prelude.{◌⊎◌, ◌<◌, ◌≤◌, ℕ, Bool, true, false, if◌then◌else◌, List}
use Rattle.sp_journal.specs.declared.kind.Kind.{Kind}
use Rattle.sp_journal.specs.declared.kind.Kind.TheVariants.{Empty, Foreign as IsForeign, Unfinished, Settled}
use Rattle.sp_journal.specs.declared.types.JournalError.{JournalError}
use Rattle.sp_journal.specs.declared.types.JournalError.TheVariants.{Foreign as SaysForeign, Damaged as SaysDamaged, Worn, Fault, Memory}
use Rattle.sp_journal.specs.Kinds.{IsKind}
use Rattle.sp_journal.specs.Recovery.{Outcome, Foreign, Damaged, Recovers}

-- A file of that kind is not settled.
abbrev pub IsUnsettled : Kind → Type 0
IsUnsettled Empty = Unit {0}
IsUnsettled Unfinished = Unit {0}
IsUnsettled IsForeign = ⊥
IsUnsettled (Settled version generation) = ⊥

-- It is not settled, or of no greater generation than that.
abbrev pub IsNoNewer : Kind → ℕ → Type 0
IsNoNewer Empty generation = Unit {0}
IsNoNewer Unfinished generation = Unit {0}
IsNoNewer IsForeign generation = ⊥
IsNoNewer (Settled version own) generation = own ≤ generation

-- It is not settled, or of a smaller generation.
abbrev pub IsOlder : Kind → ℕ → Type 0
IsOlder Empty generation = Unit {0}
IsOlder Unfinished generation = Unit {0}
IsOlder IsForeign generation = ⊥
IsOlder (Settled version own) generation = own < generation

-- Whether the second of two files is current, and its version and generation: of the settled files that of the
-- greater generation, and the first of two that are equal. Where none is settled it is the first, with zeros.
pub data IsChosen (main alt : List ℕ) : Bool → ℕ → ℕ → Type 0 where
  first : (version generation : ℕ) (other : Kind) → IsKind main (Settled version generation) → IsKind alt other → IsNoNewer other generation → IsChosen main alt false version generation
  second : (version generation : ℕ) (other : Kind) → IsKind alt (Settled version generation) → IsKind main other → IsOlder other generation → IsChosen main alt true version generation
  neither : (one other : Kind) → IsKind main one → IsKind alt other → IsUnsettled one → IsUnsettled other → IsChosen main alt false 0 0

-- What the two files are recovered to: where one is foreign that, else what the current one is.
pub data RecoversPair (main alt : List ℕ) : Outcome → Type 0 where
  foreign : IsKind main IsForeign ⊎ IsKind alt IsForeign → RecoversPair main alt Foreign
  current : (is_alt : Bool) (version generation : ℕ) (outcome : Outcome) → IsChosen main alt is_alt version generation → Recovers (if is_alt then alt else main) outcome → RecoversPair main alt outcome

-- what an error says of the two files
abbrev pub RefusedPair : JournalError → List ℕ → List ℕ → Type 0
RefusedPair SaysForeign main alt = RecoversPair main alt Foreign
RefusedPair (SaysDamaged at) main alt = RecoversPair main alt (Damaged at)
RefusedPair Worn main alt = ⊥
RefusedPair Fault main alt = Unit {0}
RefusedPair Memory main alt = Unit {0}

-- the same, where no file was read but for its kind
abbrev pub RefusedKinds : JournalError → List ℕ → List ℕ → Type 0
RefusedKinds SaysForeign main alt = RecoversPair main alt Foreign
RefusedKinds (SaysDamaged at) main alt = ⊥
RefusedKinds Worn main alt = ⊥
RefusedKinds Fault main alt = Unit {0}
RefusedKinds Memory main alt = Unit {0}

-- what an error says of the current file
abbrev pub RefusedAs : JournalError → List ℕ → Type 0
RefusedAs SaysForeign file = Recovers file Foreign
RefusedAs (SaysDamaged at) file = Recovers file (Damaged at)
RefusedAs Worn file = ⊥
RefusedAs Fault file = Unit {0}
RefusedAs Memory file = Unit {0}
