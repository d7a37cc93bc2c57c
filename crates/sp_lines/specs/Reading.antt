-- What was read of a source and written to a sink by the end of a run.
use Rattle.std.specs.Prelude.{◌≡◌, ◌<◌, ◌≤◌, ◌^◌, ℕ, List, [], ◌++◌, map, length, Option, Result}
use Rattle.std.specs.Io.KnownBytes.{Keeps, Appends, Consumes, IsAtEnd}
use Rattle.sp_io.specs.Streams.{AppendsFront}
use Rattle.sp_text.specs.Grammar.{said, Wrong}
use Rattle.sp_text.specs.declared.form.Form.{Form}
use Rattle.sp_text.specs.Lines.{lines}
use Rattle.sp_text.specs.Transcripts.{heard}
use Rattle.sp_text.specs.declared.types.Said.{Said}
use Rattle.sp_text.specs.declared.types.Item.{Item}
use Rattle.sp_text.specs.declared.types.End.{End}
use Rattle.sp_text.specs.declared.types.End.TheVariants.{Input, Usage, ReadFault, WriteFault, DiskFault, Foreign, Damaged, Memory, Long}

-- The bytes read are all that the source had, and the items that are not late are those of its lines.
pub record ReadsWhole (form : Form) (old new : Option (List ℕ)) (items : List Item) : Type 0 where
  pub bytes : List ℕ
  pub read : Consumes old new bytes
  pub end : IsAtEnd new
  pub short : length bytes < 2 ^ 32
  pub heard_as : heard form items ≡ map (said form) (lines bytes)

-- The items that are not late are those of the first lines of the bytes read.
pub record ReadsPart (form : Form) (old new : Option (List ℕ)) (items : List Item) : Type 0 where
  pub bytes : List ℕ
  pub read : Consumes old new bytes
  pub unanswered : List (Result Said Wrong)
  pub heard_as : map (said form) (lines bytes) ≡ heard form items ++ unanswered

-- What was read and heard. Where the source failed or gave all that is read at most, only a line that had not ended is left. Nothing is read before the run has begun.
abbrev pub ReadsTo : Form → End → Option (List ℕ) → Option (List ℕ) → List Item → Type 0
ReadsTo form Input old new items = ReadsWhole form old new items
ReadsTo form ReadFault old new items = (part : ReadsPart form old new items) × (length part.unanswered ≤ 1) × (length part.bytes < 2 ^ 32)
ReadsTo form Long old new items = (part : ReadsPart form old new items) × (length part.unanswered ≤ 1) × (length part.bytes ≡ 2 ^ 32)
ReadsTo form WriteFault old new items = ReadsPart form old new items
ReadsTo form DiskFault old new items = ReadsPart form old new items
ReadsTo form Memory old new items = ReadsPart form old new items
ReadsTo form Usage old new items = Keeps old new × (items ≡ [])
ReadsTo form Foreign old new items = Keeps old new × (items ≡ [])
ReadsTo form (Damaged offset) old new items = Keeps old new × (items ≡ [])

-- What was written of a text: all of it, or a front of it where a write failed.
abbrev pub WritesTo : End → Option (List ℕ) → Option (List ℕ) → List ℕ → Type 0
WritesTo WriteFault old new text = AppendsFront old new text
WritesTo end old new text = Appends old new text
