-- What the words ask for, and what each command writes that hears no script.
use Rattle.std.specs.Prelude.{◌≡◌, ◌⊎◌, ℕ, List, [], codes, Option, Some}
use Rattle.std.specs.Io.KnownBytes.{Appends}
use Rattle.sp_io.specs.Faults.{Rose}
use Rattle.sp_io.specs.Streams.{AppendsFront}
use Rattle.sp_text.specs.declared.types.End.{End}
use Rattle.sp_text.specs.declared.types.End.TheVariants.{Input, Usage, ReadFault, WriteFault, DiskFault, Foreign, Damaged, Memory, Long}
use Rattle.sp_command.specs.declared.task.Run.{Run}
use Rattle.sp_command.specs.declared.task.Task.{Task}
use Rattle.sp_command.specs.declared.task.Task.TheVariants.{Play, Drill, Dump, Check, Compact}
use Rattle.sp_command.specs.Grammar.{Says}
use Rattle.sp_script.specs.Script.{script_text}
use Rattle.sp_files.specs.declared.ending.FileEnd.{FileEnd}
use Rattle.sp_files.specs.Ending.{status_of as status_of_files, Closes}
use Rattle.sp_runs.specs.declared.language.Language.{Language}
use Rattle.sp_runs.specs.declared.language.Language.TheVariants.{Commands, Events}
use Rattle.sp_runs.specs.Writing.{WritesOrFails}

-- the exit status of an end
abbrev pub status_of : End → ℕ
status_of Input = 0
status_of Usage = 1
status_of ReadFault = 2
status_of WriteFault = 3
status_of DiskFault = 4
status_of Foreign = 5
status_of (Damaged offset) = 5
status_of Memory = 6
status_of Long = 8

-- the run of a script in that language
abbrev pub script_task : Language → Run → Task
script_task Commands run = Play run
script_task Events run = Drill run

-- the words ask for no task
abbrev pub SaysNothing : List (List ℕ) → Type 0
SaysNothing words = (task : Task) → Says words task → ⊥

-- a run whose commits are kept in the journal of that name
abbrev pub KeepsIn : List ℕ → Task → Type 0
KeepsIn name task = (language : Language) × (run : Run) × (task ≡ script_task language run) × (run.journal ≡ Some name)

-- the task is on the files of the journal of that name
abbrev pub IsOnFiles : List ℕ → Task → Type 0
IsOnFiles name task = (task ≡ Dump name) ⊎ (task ≡ Check name) ⊎ (task ≡ Compact name) ⊎ KeepsIn name task

-- the words ask for something to be done on the files of the journal of that name
abbrev pub NamesJournal : List (List ℕ) → List ℕ → Type 0
NamesJournal words name = (task : Task) × Says words task × IsOnFiles name task

-- A command on the files of a journal ended so: its status, what its end says, and at a fault the line.
abbrev pub Finishes : (FileEnd → Type 0) → ℕ → Option (List ℕ) → Option (List ℕ) → ℕ → ℕ → Type 0
Finishes Reports status old new before now = (end : FileEnd) × (status ≡ status_of_files end) × Reports end × Closes end old new before now

-- The generated script was written, or a front of it where the sink's count rose, or there was no memory.
abbrev pub Makes : ℕ → ℕ → ℕ → Option (List ℕ) → Option (List ℕ) → ℕ → ℕ → Type 0
Makes status seed count old new before now =
    ((status ≡ 0) × Appends old new (script_text seed count)) ⊎ ((status ≡ 3) × AppendsFront old new (script_text seed count) × Rose before now)
    ⊎ ((status ≡ 6) × WritesOrFails old new before now (codes "! memory\n"))
