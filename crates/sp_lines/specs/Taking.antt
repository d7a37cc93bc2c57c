-- Lines that are taken from a source one by one.
use Rattle.std.specs.Prelude.{◌≡◌, ◌<◌, ◌+◌, ◌^◌, ℕ, Bool, true, false, List, [], ◌∷◌, ◌++◌, length, Option, if◌then◌else◌}
use Rattle.std.specs.Str.Lines.{strip_carriage_return}
use Rattle.std.specs.Io.KnownBytes.{Keeps, Consumes, IsAtEnd}
use Rattle.sp_lines.specs.declared.fault.Fault.TheVariants.{Memory as WantsMemory, Write as CannotWrite}
use Rattle.sp_lines.specs.declared.chunk.Filled.{Filled}
use Rattle.sp_lines.specs.declared.chunk.Filled.TheVariants.{Bytes, End as AtEnd, Failed as ReadFailed, Full}
use Rattle.sp_lines.specs.declared.reader.Next.{Next}
use Rattle.sp_lines.specs.declared.reader.Next.TheVariants.{Line, Last, End, Failed, Unwritten, Long, Memory}
use Rattle.sp_lines.specs.Cutting.{cut_after, answered}
use Rattle.sp_lines.specs.Hearing.{GoesThrough, GoesSoFar, StopsWithin}
use Rattle.sp_lines.specs.Pending.{Pending}

-- a line as it is handed on: where an LF ended it, without a CR before that
abbrev pub line_of : Bool → List ℕ → List ℕ
line_of ended line = if ended then line else strip_carriage_return line

-- whether a line was taken
abbrev pub IsTaken : Next → Type 0
IsTaken Line = Unit {0}
IsTaken Last = Unit {0}
IsTaken _ = ⊥

-- What a chunk holds where it was empty and a read was to fill it.
abbrev pub FillsTo : Filled → Option (List ℕ) → Option (List ℕ) → Pending → Pending → Type 0
FillsTo Bytes left rest old new = Consumes left rest new.bytes × (0 < length new.bytes) × (length new.bytes + new.room ≡ old.room)
FillsTo AtEnd left rest old new = Keeps left rest × IsAtEnd rest × (new ≡ old) × (0 < old.room)
FillsTo ReadFailed left rest old new = Keeps left rest × (new ≡ old) × (0 < old.room)
FillsTo Full left rest old new = Keeps left rest × (new ≡ old) × (old.room ≡ 0)

-- Some first bytes of those pending were cut, behind a front of a line: these lines that are not blank ended in them, and this front is left.
pub record CutsOff (old new rest : List ℕ) (lines : List (List ℕ)) (after : List ℕ) : Type 0 where
  pub bytes : List ℕ
  pub parts : old ≡ bytes ++ new
  pub ended : answered (cut_after rest bytes).lines ≡ lines
  pub left : after ≡ (cut_after rest bytes).rest

-- the same by what is told: a line that is not blank was found, or nothing is pending
abbrev pub CutsTo : Bool → (old new rest after : List ℕ) → Type 0
CutsTo true old new rest after = CutsOff old new rest (strip_carriage_return after ∷ []) []
CutsTo false old new rest after = CutsOff old new rest [] after × (new ≡ [])

-- From what the source had at the start these lines were taken, in order; so much of what was read is pending, behind a front of a line.
pub record HasTaken (start left : Option (List ℕ)) (pending : Pending) (rest : List ℕ) (lines : List (List ℕ)) : Type 0 where
  pub cut : List ℕ
  pub read : Consumes start left (cut ++ pending.bytes)
  pub count : length (cut ++ pending.bytes) + pending.room ≡ 2 ^ 32
  pub ended : answered (cut_after [] cut).lines ≡ lines
  pub kept : rest ≡ (cut_after [] cut).rest

-- What a reader comes to that has taken these lines: one more, or the end of the run with no more.
abbrev pub ComesTo : Next → Option (List ℕ) → Option (List ℕ) → Pending → List ℕ → List (List ℕ) → Type 0
ComesTo Line start left pending line lines = HasTaken start left pending [] (lines ++ line ∷ [])
ComesTo Last start left pending line lines = GoesThrough (λ ended l. l ≡ lines ++ line ∷ []) start left
ComesTo End start left pending line lines = GoesThrough (λ ended l. l ≡ lines) start left
ComesTo Failed start left pending line lines = (g : GoesSoFar (λ ended l. l ≡ lines) start left) × (length g.bytes < 2 ^ 32)
ComesTo Long start left pending line lines = (g : GoesSoFar (λ ended l. l ≡ lines) start left) × (length g.bytes ≡ 2 ^ 32)
ComesTo Unwritten start left pending line lines = StopsWithin (λ fault l. (others : List (List ℕ)) × (l ≡ lines ++ others)) CannotWrite start left
ComesTo Memory start left pending line lines = StopsWithin (λ fault l. (others : List (List ℕ)) × (l ≡ lines ++ others)) WantsMemory start left
