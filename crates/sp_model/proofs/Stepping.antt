-- Every event keeps a kernel sound, and so does every run.
use Rattle.std.proofs.Common.{◌≡◌, ℕ, ◌≤◌, List, length, None, subst}
use Rattle.sp_rect.specs.declared.operation.Op.{Op}
use Rattle.sp_rect.specs.declared.record.Record.{Record}
use Rattle.sp_node.specs.declared.node.Shape.{Shape}
use Rattle.sp_node.specs.Among.{Among}
use Rattle.sp_rect.specs.Store.{IsOrdered}
use Rattle.sp_node.specs.Table.{Table, IsShape}
use Rattle.sp_event.specs.declared.event.Event.{Event}
use Rattle.sp_event.specs.declared.event.Event.TheVariants.{Begin, Start, Name, Plan, Ask, Apply, Commit as AskCommit, Flush, Rollback, Clean}
use Rattle.sp_event.specs.declared.answer.Answer.{Answer}
use Rattle.sp_event.specs.declared.step.Step.{Step}
use Rattle.sp_model.specs.State.{Kernel}
use Rattle.sp_model.specs.Refusals.{turned_away}
use Rattle.sp_model.specs.Opening.{IsOpened}
use Rattle.sp_model.specs.Removal.{RemovesOne}
use Rattle.sp_model.specs.Places.{HasPlaces}
use Rattle.sp_model.specs.Unmarked.{IsDeadUntouched}
use Rattle.sp_model.specs.Runs.{Runs}
use Rattle.sp_model.specs.Stepped.{Does, Stepped, most_entries}
use Rattle.sp_model.specs.Soundness.{Sound}
use Rattle.sp_model.proofs.Applies.{apply_keeps}
use Rattle.sp_model.proofs.Bare.{Bare, bare, whole}
use Rattle.sp_model.proofs.Dying.{begin_untouched, start_untouched, name_untouched, plan_untouched, ask_untouched, apply_untouched, commit_untouched, rollback_untouched, flush_untouched, clean_untouched}
use Rattle.sp_model.proofs.Ends.{commit_keeps, rollback_keeps, flush_keeps, clean_keeps}
use Rattle.sp_model.proofs.Opened.{opened-sound}
use Rattle.sp_model.proofs.Placing.{does_place}
use Rattle.sp_model.proofs.Starts.{begin_keeps, start_keeps, name_keeps, plan_keeps, ask_keeps}

module _ (IsRemoved : Table → ℕ → Table → Type 0) (k : Kernel) (sound : Sound k) where
  -- with what is kept of dead entries, a kernel is sound
  after_event : (event : Event) (answer : Answer) (after : Kernel) → Does IsRemoved k event answer after → Bare after → IsDeadUntouched after → Sound after
  after_event event answer after does kept untouched = whole after kept untouched (does_place IsRemoved event k answer after (bare k sound) sound.places does)

  pub begin_sound : (s : ℕ) (answer : Answer) (after : Kernel) → turned_away k (Begin s) ≡ None → Does IsRemoved k (Begin s) answer after → Sound after
  begin_sound s answer after free does = after_event (Begin s) answer after does (begin_keeps IsRemoved k s answer after (bare k sound) free does) (begin_untouched k (bare k sound) sound.untouched IsRemoved s answer after does)

  pub start_sound : (s : ℕ) (op : Op) (answer : Answer) (after : Kernel) → turned_away k (Start s op) ≡ None → Does IsRemoved k (Start s op) answer after → Sound after
  start_sound s op answer after free does = after_event (Start s op) answer after does (start_keeps IsRemoved k s op answer after (bare k sound) free does) (start_untouched k (bare k sound) sound.untouched IsRemoved s op answer after free does)

  pub name_sound : (s : ℕ) (answer : Answer) (after : Kernel) → turned_away k (Name s) ≡ None → Does IsRemoved k (Name s) answer after → Sound after
  name_sound s answer after free does = after_event (Name s) answer after does (name_keeps IsRemoved k s answer after (bare k sound) free does) (name_untouched k (bare k sound) sound.untouched IsRemoved s answer after does)

  pub plan_sound : (s : ℕ) (answer : Answer) (after : Kernel) → turned_away k (Plan s) ≡ None → Does IsRemoved k (Plan s) answer after → Sound after
  plan_sound s answer after free does = after_event (Plan s) answer after does (plan_keeps IsRemoved k s answer after (bare k sound) free does) (plan_untouched k (bare k sound) sound.untouched IsRemoved s answer after does)

  pub ask_sound : (s : ℕ) (answer : Answer) (after : Kernel) → Does IsRemoved k (Ask s) answer after → Sound after
  ask_sound s answer after does = after_event (Ask s) answer after does (ask_keeps IsRemoved k s answer after (bare k sound) does) (ask_untouched k (bare k sound) sound.untouched IsRemoved s answer after does)

  pub apply_sound : (s : ℕ) (answer : Answer) (after : Kernel) → Does IsRemoved k (Apply s) answer after → Sound after
  apply_sound s answer after does = after_event (Apply s) answer after does (apply_keeps IsRemoved k s answer after (bare k sound) does) (apply_untouched k (bare k sound) sound.untouched IsRemoved s answer after does)

  pub commit_sound : (s : ℕ) (answer : Answer) (after : Kernel) → Does IsRemoved k (AskCommit s) answer after → Sound after
  commit_sound s answer after does = after_event (AskCommit s) answer after does (commit_keeps IsRemoved k s answer after (bare k sound) does) (commit_untouched k (bare k sound) sound.untouched IsRemoved s answer after does)

  pub rollback_sound : (s : ℕ) (answer : Answer) (after : Kernel) → turned_away k (Rollback s) ≡ None → Does IsRemoved k (Rollback s) answer after → Sound after
  rollback_sound s answer after free does = after_event (Rollback s) answer after does (rollback_keeps IsRemoved k s answer after (bare k sound) free does) (rollback_untouched k (bare k sound) sound.untouched IsRemoved s answer after free does)

  pub flush_sound : (answer : Answer) (after : Kernel) → Does IsRemoved k Flush answer after → Sound after
  flush_sound answer after does = after_event Flush answer after does (flush_keeps IsRemoved k answer after (bare k sound) does) (flush_untouched IsRemoved k answer after (bare k sound) sound.untouched does)

  pub clean_sound : (answer : Answer) (after : Kernel) → RemovesOne IsRemoved → turned_away k Clean ≡ None → Does IsRemoved k Clean answer after → Sound after
  clean_sound answer after removes free does = after_event Clean answer after does (clean_keeps IsRemoved k answer after removes (bare k sound) free does) (clean_untouched k (bare k sound) sound.untouched IsRemoved answer after removes does)

module _ (IsRemoved : Table → ℕ → Table → Type 0) where
  -- an event that does what it does keeps a kernel sound
  module _ (removes : RemovesOne IsRemoved) where
    pub does_keeps : (k : Kernel) (event : Event) (answer : Answer) (after : Kernel) → Sound k → turned_away k event ≡ None → Does IsRemoved k event answer after → Sound after
    does_keeps k (Begin s) answer after sound = begin_sound IsRemoved k sound s answer after
    does_keeps k (Start s op) answer after sound = start_sound IsRemoved k sound s op answer after
    does_keeps k (Name s) answer after sound = name_sound IsRemoved k sound s answer after
    does_keeps k (Plan s) answer after sound = plan_sound IsRemoved k sound s answer after
    does_keeps k (Ask s) answer after sound = λ free does. ask_sound IsRemoved k sound s answer after does
    does_keeps k (Apply s) answer after sound = λ free does. apply_sound IsRemoved k sound s answer after does
    does_keeps k (AskCommit s) answer after sound = λ free does. commit_sound IsRemoved k sound s answer after does
    does_keeps k (Rollback s) answer after sound = rollback_sound IsRemoved k sound s answer after
    does_keeps k Flush answer after sound = λ free does. flush_sound IsRemoved k sound answer after does
    does_keeps k Clean answer after sound = clean_sound IsRemoved k sound answer after removes

    pub stepped_keeps : (k : Kernel) (event : Event) (answer : Answer) (after : Kernel) → Sound k → Stepped IsRemoved k event answer after → Sound after
    stepped_keeps k event _ _ sound (Stepped.IsTurnedAway answer away) = sound
    stepped_keeps k event _ _ sound (Stepped.IsDone answer after free does) = does_keeps k event answer after sound free does

    pub runs_keep : (k : Kernel) (steps : List Step) (last : Kernel) → Sound k → Runs IsRemoved k steps last → Sound last
    runs_keep k _ _ sound Runs.Stays = sound
    runs_keep k _ last sound (Runs.Goes between steps step runs stepped) = stepped_keeps between step.event step.answer last (runs_keep k steps between sound runs) stepped

-- an opened kernel has no sessions
opened_untouched : (shape : Shape) (records : List Record) (k : Kernel) → IsOpened shape records k → IsDeadUntouched k
opened_untouched shape records k opened x e i = absurd (subst (Among x) opened.sessions i)

opened_places : (shape : Shape) (records : List Record) (k : Kernel) → IsOpened shape records k → HasPlaces k
opened_places shape records k opened x i = absurd (subst (Among x) opened.sessions i)

-- the kernel that opening gives is sound
pub opened_whole : (shape : Shape) (records : List Record) (k : Kernel) → IsShape shape → IsOrdered records → length records ≤ most_entries → IsOpened shape records k → Sound k
opened_whole shape records k v ordered few opened = whole k (opened-sound shape records k v ordered few opened) (opened_untouched shape records k opened) (opened_places shape records k opened)
