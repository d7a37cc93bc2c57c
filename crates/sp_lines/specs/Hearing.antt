-- What a run over a source has done, by what is said of its lines: that these were answered (Went, with a flag that says whether the input has ended), and that some
-- first ones of these were answered before a fault (Stopped).
use Rattle.std.specs.Prelude.{◌≡◌, ◌<◌, ◌^◌, ℕ, Bool, true, false, List, [], length, Option}
use Rattle.std.specs.Io.KnownBytes.{Consumes, IsAtEnd}
use Rattle.sp_text.specs.declared.types.End.{End}
use Rattle.sp_text.specs.declared.types.End.TheVariants.{Input, Usage, ReadFault, WriteFault, DiskFault, Foreign, Damaged, Memory as OutOfMemory, Long}
use Rattle.sp_lines.specs.declared.fault.Fault.{Fault}
use Rattle.sp_lines.specs.declared.fault.Fault.TheVariants.{Write, Disk, Memory}
use Rattle.sp_lines.specs.Cutting.{cut_after, cut_whole, answered}

-- All that the source had was read, and its lines were answered.
pub record GoesThrough (Went : Bool → List (List ℕ) → Type 0) (left rest : Option (List ℕ)) : Type 0 where
  pub bytes : List ℕ
  pub read : Consumes left rest bytes
  pub end : IsAtEnd rest
  pub short : length bytes < 2 ^ 32
  pub went : Went true (answered (cut_whole bytes))

-- The source failed, or gave all that is read at most: every line that has ended was answered.
pub record GoesSoFar (Went : Bool → List (List ℕ) → Type 0) (left rest : Option (List ℕ)) : Type 0 where
  pub bytes : List ℕ
  pub read : Consumes left rest bytes
  pub went : Went false (answered (cut_after [] bytes).lines)

-- A fault came while a line was answered.
pub record StopsWithin (Stopped : Fault → List (List ℕ) → Type 0) (fault : Fault) (left rest : Option (List ℕ)) : Type 0 where
  pub bytes : List ℕ
  pub read : Consumes left rest bytes
  pub stopped : Stopped fault (answered (cut_whole bytes))

-- how a run ends by a fault of an answer
abbrev pub end_of : Fault → End
end_of Write = WriteFault
end_of Disk = DiskFault
end_of Memory = OutOfMemory

-- what a run has done, by how it ended
abbrev pub RunsTo : (Bool → List (List ℕ) → Type 0) → (Fault → List (List ℕ) → Type 0) → End → Option (List ℕ) → Option (List ℕ) → Type 0
RunsTo Went Stopped Input left rest = GoesThrough Went left rest
RunsTo Went Stopped ReadFault left rest = (g : GoesSoFar Went left rest) × (length g.bytes < 2 ^ 32)
RunsTo Went Stopped Long left rest = (g : GoesSoFar Went left rest) × (length g.bytes ≡ 2 ^ 32)
RunsTo Went Stopped WriteFault left rest = StopsWithin Stopped Write left rest
RunsTo Went Stopped DiskFault left rest = StopsWithin Stopped Disk left rest
RunsTo Went Stopped OutOfMemory left rest = StopsWithin Stopped Memory left rest
RunsTo Went Stopped Usage left rest = ⊥
RunsTo Went Stopped Foreign left rest = ⊥
RunsTo Went Stopped (Damaged offset) left rest = ⊥

-- the ends of a run that was begun: its words were a command, and its journal one
abbrev pub EndsRun : End → Type 0
EndsRun Usage = ⊥
EndsRun Foreign = ⊥
EndsRun (Damaged offset) = ⊥
EndsRun _ = Unit {0}
