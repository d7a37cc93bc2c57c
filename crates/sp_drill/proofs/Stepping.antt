-- One event, with its item.
use Rattle.std.proofs.Common.{◌≡◌, ◌≢◌, inr, ℕ, Bool, List, [], ◌∷◌, ◌++◌, Option, Result, Ok, Err, refl, sym, subst}
use Rattle.std.specs.Prelude.{OnOk, IfOk}
use Rattle.std.specs.Io.KnownBytes.{Appends}
use Rattle.sp_io.proofs.Known.{Appends-none}
use Rattle.sp_event.specs.declared.event.Event.{Event}
use Rattle.sp_event.specs.declared.answer.Answer.{Answer}
use Rattle.sp_event.specs.declared.answer.Answer.TheVariants.{DiskFault, Memory as WantsMemory}
use Rattle.sp_text.specs.declared.form.Form.TheVariants.{Drill}
use Rattle.sp_text.specs.declared.types.Item.TheVariants.{Stepped}
use Rattle.sp_text.specs.Texts.{item_text}
use Rattle.sp_lines.specs.declared.fault.Fault.{Fault}
use Rattle.sp_lines.specs.declared.fault.Fault.TheVariants.{Write, Disk, Memory}
use Rattle.sp_lines.specs.Keeping.{Notes, KeptAt}
use Rattle.sp_model.specs.State.{Kernel}
use Rattle.sp_kernel.specs.Answers.{Answers}
use Rattle.sp_drill.specs.declared.due.Due.{Due}
use Rattle.sp_drill.specs.declared.due.Due.TheVariants.{End}
use Rattle.sp_drill.specs.Hearing.{IsDueAfter, MayHaveDone, Does, DoesUntil}

module _ (event told : Event) (late : Bool) (k n : Kernel) (before after : Notes) (old new : Option (List ℕ)) (answer : Answer) (same : told ≡ event) where
  pub does_as : (due : Due) → Answers k event answer n → IsDueAfter answer due → after.items ≡ before.items ++ Stepped told answer late ∷ [] → Appends old new (item_text Drill (Stepped told answer late)) → Does event late due k before old n after new
  does_as due answers follows kept wrote = record {
    answer = answer;
    answers = answers;
    follows = follows;
    kept = subst (λ (e : Event). after.items ≡ before.items ++ Stepped e answer late ∷ []) same kept;
    written = subst (λ (e : Event). Appends old new (item_text Drill (Stepped e answer late))) same wrote;
  }

  kept_as : (fault : Fault) → answer ≢ WantsMemory → Answers k event answer n → KeptAt fault Drill before.items after.items (Stepped event answer late) old new → DoesUntil fault event late k before old n after new
  kept_as Write some answers kept = (answer, some, answers, kept)
  kept_as Disk some answers kept = absurd kept
  kept_as Memory some answers kept = (kept.0, kept.1, inr (answer, answers))

-- the item was kept and written
pub does_kept : {E : Type 0} (r : Result Due E) (event told : Event) (late : Bool) (k n : Kernel) (before after : Notes) (old new : Option (List ℕ)) (answer : Answer) → told ≡ event → Answers k event answer n
    → IfOk r (IsDueAfter answer) → OnOk r (after.items ≡ before.items ++ Stepped told answer late ∷ []) → OnOk r (Appends old new (item_text Drill (Stepped told answer late)))
    → IfOk r (λ due. Does event late due k before old n after new)
does_kept (Ok due) event told late k n before after old new answer same answers follows kept wrote = does_as event told late k n before after old new answer same due answers follows kept wrote
does_kept (Err e) event told late k n before after old new answer same answers follows kept wrote = tt

-- it was not, or in part
pub until_kept : (fault : Fault) (event told : Event) (late : Bool) (k n : Kernel) (before after : Notes) (old new : Option (List ℕ)) (answer : Answer) → told ≡ event → answer ≢ WantsMemory → Answers k event answer n
    → KeptAt fault Drill before.items after.items (Stepped told answer late) old new → DoesUntil fault event late k before old n after new
until_kept fault event told late k n before after old new answer same some answers kept =
    kept_as event told late k n before after old new answer same fault some answers
    (subst (λ (e : Event). KeptAt fault Drill before.items after.items (Stepped e answer late) old new) same kept)

-- there was no memory for the event
pub until_lacks : (fault : Fault) (event : Event) (late : Bool) (k n : Kernel) (before : Notes) (old : Option (List ℕ)) → fault ≡ Memory → MayHaveDone k event n → DoesUntil fault event late k before old n before old
until_lacks fault event late k n before old e h = subst (λ (f : Fault). DoesUntil f event late k before old n before old) (sym e) (refl, Appends-none old, h)

-- the end is due only where the disk failed
due_fails : (answer : Answer) (due : Due) → IsDueAfter answer due → due ≡ End → answer ≡ DiskFault
due_fails answer due follows e = subst (λ (d : Due). IsDueAfter answer d) e follows

pub rose_at_end : {E : Type 0} (r : Result Due E) (answer : Answer) (P : Type 0) → IfOk r (IsDueAfter answer) → (answer ≡ DiskFault → P) → IfOk r (λ due. due ≡ End → P)
rose_at_end (Ok due) answer P follows h = λ e. h (due_fails answer due follows e)
rose_at_end (Err x) answer P follows h = tt
