-- What a run writes: the texts of its items, the audit's line where it is asked for, and at a fault its line.
use Rattle.std.specs.Prelude.{◌⊎◌, ℕ, Bool, if◌then◌else◌, List, [], ◌++◌, codes, decimal, Option}
use Rattle.std.specs.Io.KnownBytes.{Appends}
use Rattle.sp_io.specs.Faults.{Rose}
use Rattle.sp_io.specs.Streams.{AppendsFront}
use Rattle.sp_audit.specs.History.{History}
use Rattle.sp_audit.specs.Line.{audit_text}
use Rattle.sp_text.specs.declared.types.End.{End}
use Rattle.sp_text.specs.declared.types.End.TheVariants.{Input, Usage, ReadFault, WriteFault, DiskFault, Foreign, Damaged, Memory, Long}

-- the last line of the output, which names the fault; a failed write has none
abbrev pub last_line : End → List ℕ
last_line Input = []
last_line Usage = codes "! usage\n"
last_line ReadFault = codes "! read\n"
last_line WriteFault = []
last_line DiskFault = codes "! disk\n"
last_line Foreign = codes "! foreign\n"
last_line (Damaged offset) = codes "! damaged " ++ decimal offset ++ codes "\n"
last_line Memory = codes "! memory\n"
last_line Long = codes "! long\n"

-- the audit's line, where it is asked for
abbrev pub audit_line : Bool → History → List ℕ
audit_line audited audit = if audited then audit_text audit else []

-- All of the text, or a front of it where the sink's count rose.
abbrev pub WritesOrFails : Option (List ℕ) → Option (List ℕ) → ℕ → ℕ → List ℕ → Type 0
WritesOrFails old new before now text = Appends old new text ⊎ (AppendsFront old new text × Rose before now)

-- What is written by how a run ended: at the end of the input all answers and the audit's line; where a write failed a front of these; at any other fault the answers and its line.
abbrev pub Writes : End → Option (List ℕ) → Option (List ℕ) → ℕ → ℕ → List ℕ → List ℕ → Type 0
Writes Input old new before now answers line = Appends old new (answers ++ line)
Writes WriteFault old new before now answers line = AppendsFront old new (answers ++ line)
Writes end old new before now answers line = WritesOrFails old new before now (answers ++ last_line end)
