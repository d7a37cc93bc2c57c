-- What a file is, by its length and its first 17 bytes.
use Rattle.std.specs.Prelude.{◌≡◌, ◌≢◌, ◌<◌, ◌≤◌, ◌^◌, ℕ, List, ◌∷◌, ◌++◌, length}
use Rattle.sp_journal.specs.declared.kind.Kind.{Kind}
use Rattle.sp_journal.specs.declared.kind.Kind.TheVariants.{Empty, Foreign, Unfinished, Settled}
use Rattle.sp_journal.specs.Format.{header_bytes}
use Rattle.sp_journal.specs.Recovery.{IsHeader, NeedsMaking}

-- At most 17 bytes are empty, and more without a header foreign. A file of generation 2 or more whose first gate is
-- not open is unfinished. Every other file is settled.
pub data IsKind (file : List ℕ) : Kind → Type 0 where
  empty : length file ≤ 17 → IsKind file Empty
  foreign : 17 < length file → ((version generation : ℕ) (rest : List ℕ) → IsHeader version generation → file ≢ header_bytes version generation ++ rest) → IsKind file Foreign
  unfinished : (generation gate : ℕ) (tail : List ℕ) → 17 < length file → 2 ≤ generation → generation < 2 ^ 63 → gate ≢ 1 → file ≡ header_bytes 2 generation ++ gate ∷ tail → IsKind file Unfinished
  settled : (version generation gate : ℕ) (tail : List ℕ) → 17 < length file → IsHeader version generation → (2 ≤ generation → gate ≡ 1) → file ≡ header_bytes version generation ++ gate ∷ tail → IsKind file (Settled version generation)

-- The file is to be made anew, or it is the first of a journal: settled, and of no generation above 1.
pub data IsFresh (file : List ℕ) : Type 0 where
  unmade : NeedsMaking file → IsFresh file
  first : (version generation : ℕ) → IsKind file (Settled version generation) → generation ≤ 1 → IsFresh file

-- Where that file was settled, this one is so too, with its version and generation; and where that one was fresh, this one is.
pub record KeepsKind (was file : List ℕ) : Type 0 where
  pub settled : (version generation : ℕ) → IsKind was (Settled version generation) → IsKind file (Settled version generation)
  pub fresh : IsFresh was → IsFresh file

-- The file begins with the header of that version and generation.
abbrev pub HasHeader : ℕ → ℕ → List ℕ → Type 0
HasHeader version generation file = (rest : List ℕ) × (file ≡ header_bytes version generation ++ rest)

-- The file begins with a valid header of that version.
abbrev pub HasVersion : ℕ → List ℕ → Type 0
HasVersion version file = (generation : ℕ) × IsHeader version generation × HasHeader version generation file

-- Whatever header that file begins with, this one begins with it too.
abbrev pub KeepsHeader : List ℕ → List ℕ → Type 0
KeepsHeader was file = (version generation : ℕ) → HasHeader version generation was → HasHeader version generation file

-- The file keeps the kind and the header of one that a stop might have left.
pub record KeepsOneOf (leaves : List ℕ → Type 0) (file : List ℕ) : Type 0 where
  pub was : List ℕ
  pub left : leaves was
  pub keeps : KeepsKind was file
  pub header : KeepsHeader was file
