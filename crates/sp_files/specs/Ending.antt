-- The status and the last line of a command's end, and what is written of an answer.
use Rattle.std.specs.Prelude.{◌≡◌, ◌⊎◌, ℕ, List, [], ◌++◌, codes, decimal, Option, Result, Ok, Err}
use Rattle.std.specs.Io.KnownBytes.{Appends}
use Rattle.sp_io.specs.Faults.{Rose}
use Rattle.sp_io.specs.Streams.{AppendsFront}
use Rattle.sp_journal.specs.declared.types.JournalError.{JournalError}
use Rattle.sp_journal.specs.declared.types.JournalError.TheVariants.{Foreign as SaysForeign, Damaged as SaysDamaged, Worn as SaysWorn, Fault, Memory as NoMemory}
use Rattle.sp_disk.specs.declared.shelf.ShelfFault.{ShelfFault}
use Rattle.sp_disk.specs.declared.shelf.ShelfFault.TheVariants.{Fault as ShelfFailed, Memory as ShelfMemory}
use Rattle.sp_files.specs.declared.ending.FileEnd.{FileEnd}
use Rattle.sp_files.specs.declared.ending.FileEnd.TheVariants.{Written, WriteFault, DiskFault, Foreign, Damaged, Worn, Memory}

-- the exit status
abbrev pub status_of : FileEnd → ℕ
status_of Written = 0
status_of WriteFault = 3
status_of DiskFault = 4
status_of Foreign = 5
status_of (Damaged offset) = 5
status_of Worn = 5
status_of Memory = 6

-- the last line of the output, which names the fault; a failed write has none
abbrev pub last_line : FileEnd → List ℕ
last_line Written = []
last_line WriteFault = []
last_line DiskFault = codes "! disk\n"
last_line Foreign = codes "! foreign\n"
last_line (Damaged offset) = codes "! damaged " ++ decimal offset ++ codes "\n"
last_line Worn = codes "! worn\n"
last_line Memory = codes "! memory\n"

-- the end of a command whose journal could not be read
abbrev pub end_of : JournalError → FileEnd
end_of SaysForeign = Foreign
end_of (SaysDamaged at) = Damaged at
end_of SaysWorn = Worn
end_of Fault = DiskFault
end_of NoMemory = Memory

-- the end of a command whose files were not handed out
abbrev pub end_unfetched : ShelfFault → FileEnd
end_unfetched ShelfFailed = DiskFault
end_unfetched ShelfMemory = Memory

-- All of the text, or a front of it where the sink's count rose.
abbrev pub WritesOrFails : Option (List ℕ) → Option (List ℕ) → ℕ → ℕ → List ℕ → Type 0
WritesOrFails old new before now text = Appends old new text ⊎ (AppendsFront old new text × Rose before now)

-- The text was written, or the sink's count rose at a front of it.
abbrev pub Writes : List ℕ → FileEnd → Option (List ℕ) → Option (List ℕ) → ℕ → ℕ → Type 0
Writes text Written old new before now = Appends old new text
Writes text WriteFault old new before now = AppendsFront old new text × Rose before now
Writes text _ old new before now = ⊥

-- What is written of an answer: the text, or at a fault its line alone.
abbrev pub Tells : Result (List ℕ) JournalError → FileEnd → Option (List ℕ) → Option (List ℕ) → ℕ → ℕ → Type 0
Tells (Ok text) end old new before now = Writes text end old new before now
Tells (Err error) end old new before now = (end ≡ end_of error) × WritesOrFails old new before now (last_line end)

-- What every end says of the output: at a fault its line alone was written, and a failed write was counted.
abbrev pub Closes : FileEnd → Option (List ℕ) → Option (List ℕ) → ℕ → ℕ → Type 0
Closes Written old new before now = Unit {0}
Closes WriteFault old new before now = Rose before now
Closes end old new before now = WritesOrFails old new before now (last_line end)
