-- What an end says of the two files, by what was answered.
use Rattle.std.proofs.Common.{◌≡◌, ℕ, List, Option, Result, Ok, Err, sym, subst}
use Rattle.std.specs.Prelude.{IfOk, IfErr}
use Rattle.sp_journal.specs.declared.types.JournalError.{JournalError}
use Rattle.sp_journal.specs.declared.types.JournalError.TheVariants.{Foreign as SaysForeign, Damaged as SaysDamaged, Worn as SaysWorn, Fault, Memory as NoMemory}
use Rattle.sp_journal.specs.declared.types.Recovered.{Recovered}
use Rattle.sp_pair.specs.Pairs.{RefusedPair}
use Rattle.sp_files.specs.declared.ending.FileEnd.{FileEnd}
use Rattle.sp_files.specs.declared.ending.FileEnd.TheVariants.{Written, WriteFault, DiskFault, Foreign, Damaged, Worn, Memory}
use Rattle.sp_files.specs.Ending.{end_of, Tells}
use Rattle.sp_files.specs.Reporting.{TextOver, Reports as Says}

module _ (text : Recovered → List ℕ) (main alt : List ℕ) (old new : Option (List ℕ)) (before now : ℕ) where
  of_error : (e : JournalError) → RefusedPair e main alt → Says text (end_of e) main alt old new
  of_error SaysForeign is = is
  of_error (SaysDamaged at) is = is
  of_error SaysWorn is = is
  of_error Fault is = tt
  of_error NoMemory is = tt

  of_answer : (answer : Result (List ℕ) JournalError) (end : FileEnd) → IfOk answer (TextOver text main alt) → IfErr answer (λ e. RefusedPair e main alt)
      → Tells answer end old new before now → Says text end main alt old new
  of_answer (Ok bytes) Written over refused told = (bytes, over, told)
  of_answer (Ok bytes) WriteFault over refused told = (bytes, over, told.0)
  of_answer (Ok bytes) DiskFault over refused told = absurd told
  of_answer (Ok bytes) Foreign over refused told = absurd told
  of_answer (Ok bytes) (Damaged at) over refused told = absurd told
  of_answer (Ok bytes) Worn over refused told = absurd told
  of_answer (Ok bytes) Memory over refused told = absurd told
  of_answer (Err e) end over refused told = subst (λ (x : FileEnd). Says text x main alt old new) (sym told.0) (of_error e refused)

-- the same, where the disks read as the shelf held them
pub reports : (text : Recovered → List ℕ) (main alt main' alt' : List ℕ) (old new : Option (List ℕ)) (before now : ℕ) (answer : Result (List ℕ) JournalError) (end : FileEnd) → main' ≡ main → alt' ≡ alt
    → IfOk answer (TextOver text main' alt') → IfErr answer (λ e. RefusedPair e main' alt') → Tells answer end old new before now → Says text end main alt old new
reports text main alt main' alt' old new before now answer end is is' over refused told =
    subst (λ (x : List ℕ). Says text end x alt old new) is (subst (λ (x : List ℕ). Says text end main' x old new) is' (of_answer text main' alt' old new before now answer end over refused told))
