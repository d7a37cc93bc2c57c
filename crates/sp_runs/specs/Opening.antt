-- Runs over a kernel that is started first: in memory, or over the two files of a journal.
use Rattle.std.specs.Prelude.{◌≡◌, ◌⊎◌, ℕ, Bool, List, []}
use Rattle.sp_disk.specs.declared.shelf.ShelfFault.{ShelfFault}
use Rattle.sp_disk.specs.declared.shelf.ShelfFault.TheVariants.{Fault as ShelfFailed, Memory as ShelfMemory}
use Rattle.sp_disk.specs.Moments.{LeavesOnly}
use Rattle.sp_rect.specs.declared.record.Record.{Record}
use Rattle.sp_node.specs.declared.node.Shape.{Shape}
use Rattle.sp_journal.specs.declared.types.Recovered.{Recovered}
use Rattle.sp_journal.specs.declared.types.JournalError.{JournalError}
use Rattle.sp_journal.specs.declared.types.JournalError.TheVariants.{Foreign as SaysForeign, Damaged as SaysDamaged, Worn as SaysWorn, Fault as SaysFault, Memory as NoMemory}
use Rattle.sp_journal.specs.Kinds.{HasVersion}
use Rattle.sp_journal.specs.Recovery.{Holds, Foreign as HoldsForeign, Damaged as HoldsDamage}
use Rattle.sp_pair.specs.Pairs.{RecoversPair}
use Rattle.sp_text.specs.declared.types.Item.{Item}
use Rattle.sp_text.specs.declared.types.End.{End}
use Rattle.sp_text.specs.declared.types.End.TheVariants.{Foreign, Damaged, DiskFault, Memory}
use Rattle.sp_audit.specs.History.{History}
use Rattle.sp_model.specs.State.{Kernel}
use Rattle.sp_model.specs.Opening.{IsOpened}
use Rattle.sp_model.specs.Soundness.{Sound}
use Rattle.sp_durable.specs.Recovered.{HoldsOrMore}
use Rattle.sp_store.specs.Files.{main_of, alt_of}
use Rattle.sp_runs.specs.declared.language.Language.{Language}
use Rattle.sp_runs.specs.Scripts.{IsLeftIn}
use Rattle.sp_runs.specs.Running.{IsAuditOf, Runs, IsNotRun}
use Rattle.sp_runs.specs.Holding.{PairIsKept}

-- A run from the kernel that opening gives over these records, which is sound.
pub record RunsFrom (language : Language) (shape : Shape) (records : List Record) (end : End) (items : List Item) (audit : History) : Type 0 where
  pub start : Kernel
  pub opened : IsOpened shape records start
  pub sound : Sound start
  pub last : Kernel
  pub runs : Runs language start end items last
  pub audited : IsAuditOf last audit

-- In memory there are no records at first; where there was no memory for the kernel nothing was heard.
abbrev pub RunsInMemory : Language → Shape → End → List Item → History → Type 0
RunsInMemory language shape end items audit = RunsFrom language shape [] end items audit ⊎ ((end ≡ Memory) × IsNotRun items audit)

-- Of two files, by their roles, the current one is what a run left of the first, and the other is as it was when the run began. Then the current one held what the kernel had that was started; at each moment since a stop left of it what a kernel on the way has; and what is there now holds all commits of the last one. The same is so of the two together. And what is there now begins with a header of version 2, also where it has no commit.
pub record IsKept {D : Type 0} (reads : D → List ℕ) (moment : D → ℕ) (images : D → ℕ → List ℕ → Type 0) (language : Language) (k n : Kernel) (main alt : List ℕ) (now_main now_alt : D) : Type 0 where
  pub is_alt : Bool
  pub first : D
  pub current : D
  pub other : D
  pub main_is : now_main ≡ main_of is_alt current other
  pub alt_is : now_alt ≡ alt_of is_alt current other
  pub begins : (file : List ℕ) → images first (moment first) file → HoldsOrMore k file
  pub since : LeavesOnly (moment first) (moment current) (images first) (images current) (IsLeftIn language k n)
  pub now : (file : List ℕ) → images current (moment current) file → HoldsOrMore n file
  pub pair : PairIsKept reads moment images k n main alt is_alt first current other
  pub header : (file : List ℕ) → images current (moment current) file → HasVersion 2 file

-- A run from the kernel that opening gives over the records that two files hold, which is sound; the records are kept while it runs.
pub record RunsOver {D : Type 0} (reads : D → List ℕ) (moment : D → ℕ) (images : D → ℕ → List ℕ → Type 0) (language : Language) (shape : Shape) (main alt : List ℕ) (end : End) (items : List Item) (audit : History) (now_main now_alt : D) : Type 0 where
  pub found : Recovered
  pub recovered : RecoversPair main alt (Holds found)
  pub start : Kernel
  pub opened : IsOpened shape found.records start
  pub sound : Sound start
  pub last : Kernel
  pub runs : Runs language start end items last
  pub audited : IsAuditOf last audit
  pub kept : IsKept reads moment images language start last main alt now_main now_alt

-- the ends where no kernel was started
abbrev pub IsUnstarted : End → Type 0
IsUnstarted Foreign = Unit {0}
IsUnstarted (Damaged offset) = Unit {0}
IsUnstarted DiskFault = Unit {0}
IsUnstarted Memory = Unit {0}
IsUnstarted end = ⊥

-- why no kernel was started over two files
abbrev pub RefusesFiles : End → List ℕ → List ℕ → Type 0
RefusesFiles Foreign main alt = RecoversPair main alt HoldsForeign
RefusesFiles (Damaged offset) main alt = RecoversPair main alt (HoldsDamage offset)
RefusesFiles DiskFault main alt = Unit {0}
RefusesFiles Memory main alt = Unit {0}
RefusesFiles end main alt = ⊥

-- where the shelf handed no files out
abbrev pub end_unfetched : ShelfFault → End
end_unfetched ShelfFailed = DiskFault
end_unfetched ShelfMemory = Memory

-- where no kernel could be started over the files
abbrev pub end_unopened : JournalError → End
end_unopened SaysForeign = Foreign
end_unopened (SaysDamaged offset) = Damaged offset
end_unopened SaysWorn = Memory
end_unopened SaysFault = DiskFault
end_unopened NoMemory = Memory
