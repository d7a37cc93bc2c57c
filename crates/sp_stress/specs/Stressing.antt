-- A generated script that is played in memory, and what is written of that.
use Rattle.std.specs.Prelude.{◌≡◌, ℕ, List, map, Option, Some}
use Rattle.std.specs.Io.KnownBytes.{Appends}
use Rattle.sp_io.specs.Streams.{AppendsFront}
use Rattle.sp_rect.specs.Serial.{Serial}
use Rattle.sp_node.specs.declared.node.Shape.{Shape}
use Rattle.sp_text.specs.Grammar.{said}
use Rattle.sp_text.specs.Lines.{lines}
use Rattle.sp_text.specs.Transcripts.{heard}
use Rattle.sp_text.specs.declared.form.Form.TheVariants.{Play}
use Rattle.sp_text.specs.declared.types.Item.{Item}
use Rattle.sp_text.specs.declared.types.End.{End}
use Rattle.sp_text.specs.declared.types.End.TheVariants.{Input, WriteFault, Memory}
use Rattle.sp_lines.specs.Reading.{ReadsPart}
use Rattle.sp_audit.specs.History.{History}
use Rattle.sp_runs.specs.Opening.{RunsInMemory}
use Rattle.sp_runs.specs.Running.{IsTold}
use Rattle.sp_runs.specs.Writing.{last_line, WritesOrFails}
use Rattle.sp_runs.specs.declared.language.Language.TheVariants.{Commands}

-- the items that are not late are those of the script's lines; where there was no memory, of some first lines of what was read of it
abbrev pub HearsScript : End → List ℕ → List Item → Type 0
HearsScript Memory script items = (rest : List ℕ) × ReadsPart Play (Some script) (Some rest) items
HearsScript end script items = heard Play items ≡ map (said Play) (lines script)

-- The script was played in memory, over a kernel without records.
pub record PlaysScript (shape : Shape) (script : List ℕ) (end : End) (items : List Item) (audit : History) : Type 0 where
  pub runs : RunsInMemory Commands shape end items audit
  pub heard_as : HearsScript end script items
  pub told : IsTold end items audit
  pub serial : Serial audit.base audit.commits

-- a script in memory is read to its end, or there is no memory
abbrev pub EndsPlaying : End → Type 0
EndsPlaying Input = Unit {0}
EndsPlaying Memory = Unit {0}
EndsPlaying end = ⊥

-- and the write of its summary may fail
abbrev pub EndsStress : End → Type 0
EndsStress WriteFault = Unit {0}
EndsStress end = EndsPlaying end

-- The whole summary is written; where a write failed a front of it; at any other fault its line.
abbrev pub WritesSummary : End → Option (List ℕ) → Option (List ℕ) → ℕ → ℕ → List ℕ → Type 0
WritesSummary Input old new before now summary = Appends old new summary
WritesSummary WriteFault old new before now summary = AppendsFront old new summary
WritesSummary end old new before now summary = WritesOrFails old new before now (last_line end)
