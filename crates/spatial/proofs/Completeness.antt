-- Where nothing outside fails, a run of a script ends well.
use Rattle.std.proofs.Common.{◌≡◌, ◌⊎◌, inl, inr, ◌+◌, ◌<◌, ◌^◌, ℕ, Bool, IsTrue, List, length, Option, Some, None, refl, sym, ap, ◌∙◌, subst, arith}
use Rattle.std.proofs.lemmas.List.{length-append}
use Rattle.std.specs.Prelude.{IfSome, IfNone}
use Rattle.std.specs.Io.KnownBytes.{Consumes}
use Rattle.sp_io.specs.Faults.{Rose}
use Rattle.sp_text.specs.declared.form.Form.{Form}
use Rattle.sp_text.specs.declared.types.Item.{Item}
use Rattle.sp_text.specs.declared.types.End.{End}
use Rattle.sp_text.specs.declared.types.End.TheVariants.{Input, Usage, ReadFault, WriteFault, DiskFault, Foreign, Damaged, Memory, Long}
use Rattle.sp_lines.specs.Reading.{ReadsTo}
use Rattle.sp_journal.specs.declared.types.Recovered.{Recovered}
use Rattle.sp_journal.specs.Recovery.{Holds, Foreign as HoldsForeign, Damaged as HoldsDamage}
use Rattle.sp_pair.specs.Pairs.{RecoversPair}
use Rattle.sp_pair.proofs.Roles.{one_pair}
use Rattle.sp_node.specs.declared.node.Shape.{Shape}
use Rattle.sp_audit.specs.History.{History}
use Rattle.sp_model.specs.State.{Kernel}
use Rattle.sp_runs.specs.declared.language.Language.{Language}
use Rattle.sp_runs.specs.declared.language.Language.TheVariants.{Commands, Events}
use Rattle.sp_runs.specs.Scripts.{RunsBy}
use Rattle.sp_files.specs.Fetching.{alt_name}
use Rattle.sp_runs.specs.Running.{IsNotRun}
use Rattle.sp_runs.specs.Opening.{RunsInMemory, RunsOver, RefusesFiles}
use Rattle.sp_files.specs.declared.ending.FileEnd.TheVariants.{Written, WriteFault as WriteFailed, DiskFault as DiskFailed, Foreign as IsForeign, Damaged as IsDamaged, Worn, Memory as NoMemory}
use Rattle.sp_files.specs.Compacting.{Compacts, IsWorn}
use Rattle.sp_files.specs.Reporting.{Reports}
use Rattle.sp_stress.specs.Stressing.{EndsStress}
use Rattle.spatial.specs.Commands.{status_of, Finishes, Makes}
use Rattle.spatial.specs.Completeness.{IsShort, IsAccepted, EndsWell}

-- the ends of runs for which a kernel was started
abbrev pub IsStarted : End → Type 0
IsStarted Usage = ⊥
IsStarted Foreign = ⊥
IsStarted (Damaged offset) = ⊥
IsStarted end = Unit {0}

pub started_by : (language : Language) (end : End) (k : Kernel) (items : List Item) (n : Kernel) → RunsBy language end k items n → IsStarted end
started_by Commands Usage k items n h = absurd h
started_by Commands Foreign k items n h = absurd h
started_by Commands (Damaged offset) k items n h = absurd h
started_by Events Usage k items n h = absurd h
started_by Events Foreign k items n h = absurd h
started_by Events (Damaged offset) k items n h = absurd h
started_by language Input k items n h = tt
started_by language ReadFault k items n h = tt
started_by language WriteFault k items n h = tt
started_by language DiskFault k items n h = tt
started_by language Memory k items n h = tt
started_by language Long k items n h = tt

pub started_in_memory : (language : Language) (shape : Shape) (end : End) (items : List Item) (audit : History) → RunsInMemory language shape end items audit → IsStarted end
started_in_memory language shape end items audit (inl h) = started_by language end h.start items h.last h.runs.answers
started_in_memory language shape end items audit (inr h) = subst IsStarted (sym h.0) tt

-- files that hold records are not refused
pub started_over : (main alt : List ℕ) (found : Recovered) (end : End) → RecoversPair main alt (Holds found) → RefusesFiles end main alt → IsStarted end
started_over main alt found Foreign holds h = absurd (differ (one_pair main alt (Holds found) HoldsForeign holds h))
  where
    differ : Holds found ≡ HoldsForeign → ⊥
    differ e = cc
started_over main alt found (Damaged offset) holds h = absurd (differ (one_pair main alt (Holds found) (HoldsDamage offset) holds h))
  where
    differ : Holds found ≡ HoldsDamage offset → ⊥
    differ e = cc
started_over main alt found DiskFault holds h = tt
started_over main alt found Memory holds h = tt
started_over main alt found Input holds h = absurd h
started_over main alt found Usage holds h = absurd h
started_over main alt found ReadFault holds h = absurd h
started_over main alt found WriteFault holds h = absurd h
started_over main alt found Long holds h = absurd h

module _ {D : Type 0} {reads : D → List ℕ} {moment : D → ℕ} {images : D → ℕ → List ℕ → Type 0} (language : Language) (shape : Shape) (main alt : List ℕ) (found : Recovered) (end : End) (items : List Item) (audit : History) where
  pub started_on_files : (now_main now_alt : D) → RecoversPair main alt (Holds found) → RunsOver reads moment images language shape main alt end items audit now_main now_alt ⊎ (IsNotRun items audit × RefusesFiles end main alt) → IsStarted end
  started_on_files now_main now_alt holds (inl h) = started_by language end h.start items h.last h.runs.answers
  started_on_files now_main now_alt holds (inr h) = started_over main alt found end holds h.1

-- where the files were not handed out
unfetched : (end : End) → (status_of end ≡ 4) ⊎ (status_of end ≡ 6) → IsStarted end
unfetched Usage (inl h) = cc
unfetched Usage (inr h) = cc
unfetched Foreign (inl h) = cc
unfetched Foreign (inr h) = cc
unfetched (Damaged offset) (inl h) = cc
unfetched (Damaged offset) (inr h) = cc
unfetched Input h = tt
unfetched ReadFault h = tt
unfetched WriteFault h = tt
unfetched DiskFault h = tt
unfetched Memory h = tt
unfetched Long h = tt

pub started_where : {P : Type 0} (status : ℕ) (end : End) (disks : Option P) (Q : P → Type 0) → status ≡ status_of end → IfSome disks Q → ((p : P) → Q p → IsStarted end) → IfNone disks ((status ≡ 4) ⊎ (status ≡ 6)) → IsStarted end
started_where status end None Q is h f none = unfetched end (subst (λ (n : ℕ). (n ≡ 4) ⊎ (n ≡ 6)) is none)
started_where status end (Some p) Q is h f none = f p h

pub started : (end : End) (journal : Option (List ℕ)) (tells : Bool) (holds : List ℕ → List ℕ) → IsAccepted journal tells holds → (journal ≡ None → IsStarted end)
    → ((name : List ℕ) (found : Recovered) → journal ≡ Some name → IsTrue tells → RecoversPair (holds name) (holds (alt_name name)) (Holds found) → IsStarted end) → IsStarted end
started end None tells holds accepted in_memory on_files = in_memory refl
started end (Some name) tells holds accepted in_memory on_files = on_files name accepted.1 refl accepted.0 accepted.2

-- of a short source not all that is read at most is read
too_short : (left left' : Option (List ℕ)) (bytes : List ℕ) → IsShort left → Consumes left left' bytes → length bytes ≡ 2 ^ 32 → ⊥
too_short None left' bytes short read full = short
too_short (Some xs) None bytes short read full = read
too_short (Some xs) (Some ys) bytes short read full =
    let low : length xs < 2 ^ 32 = short in
    let whole : length xs ≡ length bytes + length ys = ap length read ∙ length-append bytes ys in
    omega (arith, whole, low, full)

module _ (form : Form) (left left' : Option (List ℕ)) (items : List Item) (short : IsShort left) (R W D : Type 0) (none_read : R → ⊥) (none_written : W → ⊥) (no_disk : D → ⊥) where
  pub ends_well : (status : ℕ) (end : End) → status ≡ status_of end → IsStarted end → ReadsTo form end left left' items → (status ≡ 2 → R) → (status ≡ 3 → W) → (status ≡ 4 → D) → EndsWell status
  ends_well status Input is started reads at_read at_write at_disk = inl is
  ends_well status Memory is started reads at_read at_write at_disk = inr is
  ends_well status ReadFault is started reads at_read at_write at_disk = absurd (none_read (at_read is))
  ends_well status WriteFault is started reads at_read at_write at_disk = absurd (none_written (at_write is))
  ends_well status DiskFault is started reads at_read at_write at_disk = absurd (no_disk (at_disk is))
  ends_well status Long is started reads at_read at_write at_disk = absurd (too_short left left' reads.0.bytes short reads.0.read reads.2)
  ends_well status Usage is started reads at_read at_write at_disk = absurd started
  ends_well status Foreign is started reads at_read at_write at_disk = absurd started
  ends_well status (Damaged offset) is started reads at_read at_write at_disk = absurd started

-- so a command that only reads the files of a journal
module _ (text : Recovered → List ℕ) (main alt : List ℕ) (found : Recovered) (holds : RecoversPair main alt (Holds found)) (tells : Bool) (told : IsTrue tells) (old new : Option (List ℕ)) (before now : ℕ) (none_written : Rose before now → ⊥) (D : Type 0) (no_disk : D → ⊥) where
  pub reports_well : (status : ℕ) → (status ≡ 4 → D) → Finishes (λ end. IsTrue tells → Reports text end main alt old new) status old new before now → EndsWell status
  reports_well status at_disk (Written, is, reports, closes) = inl is
  reports_well status at_disk (NoMemory, is, reports, closes) = inr is
  reports_well status at_disk (WriteFailed, is, reports, closes) = absurd (none_written closes)
  reports_well status at_disk (DiskFailed, is, reports, closes) = absurd (no_disk (at_disk is))
  reports_well status at_disk (Worn, is, reports, closes) = absurd (reports told)
  reports_well status at_disk (IsForeign, is, reports, closes) = absurd (differ (one_pair main alt (Holds found) HoldsForeign holds (reports told)))
    where
      differ : Holds found ≡ HoldsForeign → ⊥
      differ e = cc
  reports_well status at_disk (IsDamaged offset, is, reports, closes) = absurd (differ (one_pair main alt (Holds found) (HoldsDamage offset) holds (reports told)))
    where
      differ : Holds found ≡ HoldsDamage offset → ⊥
      differ e = cc

-- and a compaction of files whose generations are not used up
module _ (main alt : List ℕ) (found : Recovered) (holds : RecoversPair main alt (Holds found)) (unworn : IsWorn main alt → ⊥) (tells : Bool) (told : IsTrue tells) (old new : Option (List ℕ)) (before now : ℕ) (none_written : Rose before now → ⊥) (D : Type 0) (no_disk : D → ⊥) where
  module _ {P : Type 0} (main' alt' : P → List ℕ) where
    -- it was refused, and the files were handed out
    refused : (disks : Option P) (Q : P → Type 0) (status : ℕ) → status ≡ 5 → IfNone disks ((status ≡ 4) ⊎ (status ≡ 6)) → IfSome disks Q → ((p : P) → Q p → ⊥) → ⊥
    refused None Q status is (inl h) q none = cc
    refused None Q status is (inr h) q none = cc
    refused (Some p) Q status is h q none = none p q

    pub compacts_well : (disks : Option P) (status : ℕ) → (status ≡ 4 → D) → IfNone disks ((status ≡ 4) ⊎ (status ≡ 6)) → Finishes (λ end. IsTrue tells → IfSome disks (λ p. Compacts end main alt (main' p) (alt' p) old new)) status old new before now → EndsWell status
    compacts_well disks status at_disk unfetched (Written, is, compacts, closes) = inl is
    compacts_well disks status at_disk unfetched (NoMemory, is, compacts, closes) = inr is
    compacts_well disks status at_disk unfetched (WriteFailed, is, compacts, closes) = absurd (none_written closes)
    compacts_well disks status at_disk unfetched (DiskFailed, is, compacts, closes) = absurd (no_disk (at_disk is))
    compacts_well disks status at_disk unfetched (Worn, is, compacts, closes) = absurd (refused disks _ status is unfetched (compacts told) (λ p h. unworn h.0))
    compacts_well disks status at_disk unfetched (IsForeign, is, compacts, closes) = absurd (refused disks _ status is unfetched (compacts told) (λ p h. differ (one_pair main alt (Holds found) HoldsForeign holds h.0)))
      where
        differ : Holds found ≡ HoldsForeign → ⊥
        differ e = cc
    compacts_well disks status at_disk unfetched (IsDamaged offset, is, compacts, closes) = absurd (refused disks _ status is unfetched (compacts told) (λ p h. differ (one_pair main alt (Holds found) (HoldsDamage offset) holds h.0)))
      where
        differ : Holds found ≡ HoldsDamage offset → ⊥
        differ e = cc

-- and the playing of a generated script
pub stresses_well : (status : ℕ) (end : End) (W : Type 0) → (W → ⊥) → (status ≡ 3 → W) → status ≡ status_of end → EndsStress end → EndsWell status
stresses_well status Input W none_written at_write is ends = inl is
stresses_well status Memory W none_written at_write is ends = inr is
stresses_well status WriteFault W none_written at_write is ends = absurd (none_written (at_write is))
stresses_well status Usage W none_written at_write is ends = absurd ends
stresses_well status ReadFault W none_written at_write is ends = absurd ends
stresses_well status DiskFault W none_written at_write is ends = absurd ends
stresses_well status Foreign W none_written at_write is ends = absurd ends
stresses_well status (Damaged offset) W none_written at_write is ends = absurd ends
stresses_well status Long W none_written at_write is ends = absurd ends

-- and so the making of a script
pub makes_well : (status seed count : ℕ) (old new : Option (List ℕ)) (before now : ℕ) → (Rose before now → ⊥) → Makes status seed count old new before now → EndsWell status
makes_well status seed count old new before now none_written (inl h) = inl h.0
makes_well status seed count old new before now none_written (inr (inl h)) = absurd (none_written h.2)
makes_well status seed count old new before now none_written (inr (inr h)) = inr h.0

pub whichever : {A B C : Type 0} → (A → C) → (B → C) → A ⊎ B → C
whichever f g (inl a) = f a
whichever f g (inr b) = g b
