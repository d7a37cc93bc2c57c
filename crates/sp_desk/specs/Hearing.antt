-- What a desk has heard and told between two places of a script.
use Rattle.std.specs.Prelude.{◌≡◌, ◌≢◌, ℕ, Bool, true, false, List, ◌++◌, map, Option, None, Result}
use Rattle.std.specs.Io.KnownBytes.{Appends}
use Rattle.sp_text.specs.Grammar.{said, Wrong}
use Rattle.sp_text.specs.declared.form.Form.TheVariants.{Play}
use Rattle.sp_text.specs.Texts.{render}
use Rattle.sp_text.specs.Transcripts.{heard}
use Rattle.sp_text.specs.declared.types.Said.{Said}
use Rattle.sp_text.specs.declared.types.Item.{Item}
use Rattle.sp_lines.specs.declared.fault.Fault.{Fault}
use Rattle.sp_lines.specs.declared.fault.Fault.TheVariants.{Write, Disk}
use Rattle.sp_lines.specs.Keeping.{WrittenAt}
use Rattle.sp_model.specs.State.{Kernel}
use Rattle.sp_kernel.specs.Whole.{Whole}
use Rattle.sp_desk.specs.declared.stalled.Stalled.{Stalled}
use Rattle.sp_desk.specs.Course.{Leads, Course}
use Rattle.sp_desk.specs.Playing.{Turn, Plays, AreOver}

-- a place in a script: the items so far, the operations that wait, the kernel, and what the sink has taken
pub record Place : Type 0 where
  pub items : List Item
  pub waiting : List Stalled
  pub kernel : Kernel
  pub taken : Option (List ℕ)

abbrev pub place : List Item → List Stalled → Kernel → Option (List ℕ) → Place
place items waiting kernel taken = record { items = items; waiting = waiting; kernel = kernel; taken = taken }

-- From one place to another: items came for lines that say this, and late ones; they lead from the one kernel to the other, and their texts were written.
pub record Passes (from to : Turn) (says : List (Result Said Wrong)) (before after : Place) : Type 0 where
  pub items : List Item
  pub kept : after.items ≡ before.items ++ items
  pub heard_as : heard Play items ≡ says
  pub plays : Plays before.kernel before.waiting from items after.kernel after.waiting to
  pub written : Appends before.taken after.taken (render Play items)

-- The same up to a fault: some first ones of the lines were answered. Where a write failed the kernel is what the items lead to, and a front of their texts was written; else events of the next command may have been done.
pub record Stops (fault : Fault) (from : Turn) (says : List (Result Said Wrong)) (before after : Place) : Type 0 where
  pub items : List Item
  pub kept : after.items ≡ before.items ++ items
  pub unanswered : List (Result Said Wrong)
  pub heard_as : says ≡ heard Play items ++ unanswered
  pub reached : Kernel
  pub waiting : List Stalled
  pub turn : Turn
  pub plays : Plays before.kernel before.waiting from items reached waiting turn
  pub leads : Leads reached after.kernel
  pub whole : fault ≡ Write → after.kernel ≡ reached
  pub written : WrittenAt fault before.taken after.taken (render Play items)

-- where the input has ended, what is left is rolled back
abbrev pub turn_after : Bool → Turn
turn_after false = Turn.Hearing
turn_after true = Turn.Closing

-- so many sessions have names in a script: a letter, and up to two digits
abbrev pub script_sessions : ℕ
script_sessions = 2886

-- lines were answered; at the end of the input no session below this number has a transaction that can be rolled back
pub record AnswersLines (sessions : ℕ) (ended : Bool) (lines : List (List ℕ)) (before after : Place) : Type 0 where
  pub passes : Passes Turn.Hearing (turn_after ended) (map (said Play) lines) before after
  pub closed : ended ≡ true → AreOver after.kernel sessions

-- some first ones of these lines were answered, and then a fault came; after one of the disk the kernel is stopped
pub record StopsInLines (fault : Fault) (lines : List (List ℕ)) (before after : Place) : Type 0 where
  pub stops : Stops fault Turn.Hearing (map (said Play) lines) before after
  pub stopped : fault ≡ Disk → after.kernel.stopped ≢ None

-- The desk has answered lines over a kernel on a disk, and how that went.
pub record Went {D : Type 0} (tells takes : D → Bool) (faults moment : D → ℕ) (images : D → ℕ → List ℕ → Type 0) (ended : Bool) (lines : List (List ℕ)) (before : Place) (old : Whole D) (after : Place) (new : Whole D) : Type 0 where
  pub answers : AnswersLines script_sessions ended lines before after
  pub course : Course tells takes faults moment images old new

-- The same up to a fault.
pub record Halted {D : Type 0} (tells takes : D → Bool) (faults moment : D → ℕ) (images : D → ℕ → List ℕ → Type 0) (fault : Fault) (lines : List (List ℕ)) (before : Place) (old : Whole D) (after : Place) (new : Whole D) : Type 0 where
  pub stops : StopsInLines fault lines before after
  pub course : Course tells takes faults moment images old new
