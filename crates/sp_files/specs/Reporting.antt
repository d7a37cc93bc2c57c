-- What a command that only reads says of the two files, and what it writes.
use Rattle.std.specs.Prelude.{◌≡◌, ℕ, List, Option}
use Rattle.std.specs.Io.KnownBytes.{Appends}
use Rattle.sp_io.specs.Streams.{AppendsFront}
use Rattle.sp_journal.specs.declared.types.Recovered.{Recovered}
use Rattle.sp_journal.specs.Recovery.{Holds, Foreign as HoldsForeign, Damaged as HoldsDamage}
use Rattle.sp_pair.specs.Pairs.{RecoversPair}
use Rattle.sp_files.specs.declared.ending.FileEnd.{FileEnd}
use Rattle.sp_files.specs.declared.ending.FileEnd.TheVariants.{Written, WriteFault, DiskFault, Foreign, Damaged, Worn, Memory}

-- the bytes are that text of what the two files hold together
abbrev pub TextOver : (Recovered → List ℕ) → List ℕ → List ℕ → List ℕ → Type 0
TextOver text main alt bytes = (found : Recovered) × RecoversPair main alt (Holds found) × (bytes ≡ text found)

-- What an end says of the two files and the text that was written: all of it, or a front of it where a write failed.
-- It is foreign or damaged exactly where the two files are so. Of a disk that failed and of want of memory it says nothing.
abbrev pub Reports : (Recovered → List ℕ) → FileEnd → List ℕ → List ℕ → Option (List ℕ) → Option (List ℕ) → Type 0
Reports text Written main alt old new = (bytes : List ℕ) × TextOver text main alt bytes × Appends old new bytes
Reports text WriteFault main alt old new = (bytes : List ℕ) × TextOver text main alt bytes × AppendsFront old new bytes
Reports text Foreign main alt old new = RecoversPair main alt HoldsForeign
Reports text (Damaged at) main alt old new = RecoversPair main alt (HoldsDamage at)
Reports text Worn main alt old new = ⊥
Reports text DiskFault main alt old new = Unit {0}
Reports text Memory main alt old new = Unit {0}
