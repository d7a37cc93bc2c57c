-- What is answered to lines, and written, while events are done.
use Rattle.std.specs.Prelude.{◌≡◌, ◌≢◌, ◌⊎◌, ◌-◌, ℕ, Bool, List, [], ◌∷◌, ◌++◌, map, drop, Option}
use Rattle.std.specs.Io.KnownBytes.{Appends}
use Rattle.sp_disk.specs.Faults.{Rose}
use Rattle.sp_event.specs.declared.event.Event.{Event}
use Rattle.sp_event.specs.declared.answer.Answer.{Answer}
use Rattle.sp_event.specs.declared.answer.Answer.TheVariants.{Durable, DiskFault, Memory as WantsMemory}
use Rattle.sp_text.specs.declared.form.Form.TheVariants.{Drill}
use Rattle.sp_text.specs.declared.types.Item.{Item}
use Rattle.sp_text.specs.declared.types.Item.TheVariants.{Stepped}
use Rattle.sp_text.specs.Texts.{item_text}
use Rattle.sp_lines.specs.declared.fault.Fault.{Fault}
use Rattle.sp_lines.specs.declared.fault.Fault.TheVariants.{Write, Disk, Memory}
use Rattle.sp_lines.specs.Hearing.{end_of}
use Rattle.sp_lines.specs.Keeping.{Notes, Hears, HearsUntil, KeptAt}
use Rattle.sp_model.specs.State.{Kernel}
use Rattle.sp_model.specs.Soundness.{Sound}
use Rattle.sp_kernel.specs.Answers.{Answers}
use Rattle.sp_kernel.specs.Whole.{Whole}
use Rattle.sp_drill.specs.declared.due.Due.{Due}
use Rattle.sp_drill.specs.declared.due.Due.TheVariants.{Line, Places, End}
use Rattle.sp_drill.specs.Leading.{Leads}
use Rattle.sp_drill.specs.Drilling.{Next, GoesOn, Drilled, LeadsBy}

-- a scribe of events, beside a sound kernel
pub record IsReady (notes : Notes) (k : Kernel) : Type 0 where
  pub form : notes.form ≡ Drill
  pub sound : Sound k

-- what is due after an answer: places from that one on, the end of the run, or else the next line
abbrev pub IsDueAfter : Answer → Due → Type 0
IsDueAfter answer (Places first) = (count : ℕ) × (answer ≡ Durable first count)
IsDueAfter answer End = answer ≡ DiskFault
IsDueAfter answer Line = GoesOn answer × ((first count : ℕ) → answer ≢ Durable first count)

-- the sessions of the commits from that place on
abbrev pub placed_from : ℕ → Kernel → List ℕ
placed_from first k = map (λ c. c.session) (drop (first - 1) k.commits)

-- An event was done, and its item kept and written.
pub record Does (event : Event) (late : Bool) (due : Due) (k : Kernel) (before : Notes) (old : Option (List ℕ)) (n : Kernel) (after : Notes) (new : Option (List ℕ)) : Type 0 where
  pub answer : Answer
  pub answers : Answers k event answer n
  pub follows : IsDueAfter answer due
  pub kept : after.items ≡ before.items ++ Stepped event answer late ∷ []
  pub written : Appends old new (item_text Drill (Stepped event answer late))

-- the event may have been done
abbrev pub MayHaveDone : Kernel → Event → Kernel → Type 0
MayHaveDone k event n = (n ≡ k) ⊎ ((answer : Answer) × Answers k event answer n)

-- An event at a fault: its item was kept and its text written in part; or there was no memory, and no item was kept, though the event may be done.
abbrev pub DoesUntil : Fault → Event → Bool → Kernel → Notes → Option (List ℕ) → Kernel → Notes → Option (List ℕ) → Type 0
DoesUntil Write event late k before old n after new = (answer : Answer) × (answer ≢ WantsMemory) × Answers k event answer n × KeptAt Write Drill before.items after.items (Stepped event answer late) old new
DoesUntil Disk event late k before old n after new = ⊥
DoesUntil Memory event late k before old n after new = (after.items ≡ before.items) × Appends old new [] × MayHaveDone k event n

-- From one kernel and some items to others, and from what came next there to what comes next here: these lines were answered.
pub record Goes {D : Type 0} (tells takes : D → Bool) (faults moment : D → ℕ) (images : D → ℕ → List ℕ → Type 0) (first next : Next) (lines : List (List ℕ))
    (before : Notes) (w : Whole D) (old : Option (List ℕ)) (after : Notes) (v : Whole D) (new : Option (List ℕ)) : Type 0 where
  pub items : List Item
  pub hears : Hears Drill lines items before.items after.items old new
  pub drilled : Drilled w.kernel first items v.kernel next
  pub leads : Leads tells takes faults moment images w v

-- The same up to a fault.
pub record Stops {D : Type 0} (tells takes : D → Bool) (faults moment : D → ℕ) (images : D → ℕ → List ℕ → Type 0) (first : Next) (fault : Fault) (lines : List (List ℕ))
    (before : Notes) (w : Whole D) (old : Option (List ℕ)) (after : Notes) (v : Whole D) (new : Option (List ℕ)) : Type 0 where
  pub items : List Item
  pub hears : HearsUntil fault Drill lines items before.items after.items old new
  pub drilled : LeadsBy (end_of fault) w.kernel first items v.kernel
  pub leads : Leads tells takes faults moment images w v
  pub caused : fault ≡ Disk → Rose (faults w.disk) (faults v.disk)
