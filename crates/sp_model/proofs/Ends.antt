-- What a commit, a rollback, a flush and a removal do keeps a kernel sound.
use Rattle.std.proofs.Common.{◌≡◌, ℕ, true, false, [], ◌∷◌, ◌++◌, Option, None, Some, refl, ap, subst}
use Rattle.sp_node.specs.Table.{Table}
use Rattle.sp_event.specs.declared.event.Event.TheVariants.{Commit as AskCommit, Flush, Rollback, Clean}
use Rattle.sp_event.specs.declared.answer.Answer.{Answer}
use Rattle.sp_event.specs.declared.answer.Why.{Why}
use Rattle.sp_model.specs.declared.session.Session.{Session}
use Rattle.sp_model.specs.declared.session.Stage.{Stage}
use Rattle.sp_model.specs.declared.session.Stage.TheVariants.{Idle, Started, NameWait, Named, NeedWait, Planned, Queued, Placed}
use Rattle.sp_model.specs.State.{Kernel, is_active_stage, sessions_without}
use Rattle.sp_model.specs.Refusals.{refusal, rollback_refused, turned_away}
use Rattle.sp_model.specs.Moves.{with_stage}
use Rattle.sp_model.specs.Removal.{RemovesOne}
use Rattle.sp_model.specs.Stepped.{Does}
use Rattle.sp_model.specs.Soundness.{is_queued}
use Rattle.sp_model.proofs.Bare.{Bare}
use Rattle.sp_model.proofs.Sessions.{found-among}
use Rattle.sp_model.proofs.Turned.{is_let}
use Rattle.sp_model.proofs.Endings.{rolled_back-sound, committed-sound, told-sound}
use Rattle.sp_model.proofs.Flushing.{queued_up-sound, taken_off-sound, written-sound, placed_all-sound}
use Rattle.sp_model.proofs.Cleaning.{put_off-sound, cleaned-sound, clean-unplanned}

pub commit_keeps : (IsRemoved : Table → ℕ → Table → Type 0) (k : Kernel) (s : ℕ) (answer : Answer) (after : Kernel) → Bare k → Does IsRemoved k (AskCommit s) answer after → Bare after
commit_keeps IsRemoved k s _ _ sound (Does.Commits _ x at idle none) = let f = found-among s k.sessions x at in committed-sound k x sound f.0 (ap is_active_stage idle) (ap is_queued idle)
commit_keeps IsRemoved k s _ _ sound (Does.JoinsQueue _ x at idle some) =
    let f = found-among s k.sessions x at in
    subst (λ (n : ℕ). Bare (record (with_stage n Queued k) { queue = k.queue ++ n ∷ [] })) f.1 (queued_up-sound k x sound f.0 idle)
commit_keeps IsRemoved k s _ _ sound (Does.StaysQueued _ x at queued) = sound
commit_keeps IsRemoved k s _ _ sound (Does.TellsPlace _ x at placed) =
    let f = found-among s k.sessions x at in
    subst (λ (n : ℕ). Bare (record k { sessions = sessions_without n k.sessions })) f.1 (told-sound k x sound f.0 placed)

pub rollback-active : (stage : Stage) → rollback_refused stage ≡ None → (is_active_stage stage ≡ true) × (is_queued stage ≡ false)
rollback-active Idle h = (refl, refl)
rollback-active (Started op) h = (refl, refl)
rollback-active (NameWait op) h = (refl, refl)
rollback-active (Named op) h = (refl, refl)
rollback-active (NeedWait op) h = (refl, refl)
rollback-active (Planned op left) h = (refl, refl)
rollback-active Queued h = absurd (some _ h)
  where
    some : (why : Why) → Some why ≡ None → ⊥
    some why e = cc
rollback-active Placed h = absurd (some _ h)
  where
    some : (why : Why) → Some why ≡ None → ⊥
    some why e = cc

pub rollback_keeps : (IsRemoved : Table → ℕ → Table → Type 0) (k : Kernel) (s : ℕ) (answer : Answer) (after : Kernel) → Bare k → turned_away k (Rollback s) ≡ None → Does IsRemoved k (Rollback s) answer after → Bare after
rollback_keeps IsRemoved k s _ _ sound free (Does.RollsBack _ x at) =
    let f = found-among s k.sessions x at in
    let a = rollback-active x.stage (subst (λ (o : Option Session). refusal (Rollback s) o ≡ None) at (is_let k (Rollback s) free).refusal) in
    rolled_back-sound k x sound f.0 a.0 a.1

pub flush_keeps : (IsRemoved : Table → ℕ → Table → Type 0) (k : Kernel) (answer : Answer) (after : Kernel) → Bare k → Does IsRemoved k Flush answer after → Bare after
flush_keeps IsRemoved k _ _ sound (Does.FlushesNothing none empty) = sound
flush_keeps IsRemoved k _ _ sound (Does.TakesOff none some) = taken_off-sound k sound none some
flush_keeps IsRemoved k _ _ sound (Does.Writes some few) = written-sound k sound some few
flush_keeps IsRemoved k _ _ sound (Does.IsDurable some all) = placed_all-sound k sound

pub clean_keeps : (IsRemoved : Table → ℕ → Table → Type 0) (k : Kernel) (answer : Answer) (after : Kernel) → RemovesOne IsRemoved → Bare k → turned_away k Clean ≡ None → Does IsRemoved k Clean answer after → Bare after
clean_keeps IsRemoved k _ _ removes sound free (Does.CleansNothing none) = sound
clean_keeps IsRemoved k _ _ removes sound free (Does.CleanIsFull n rest after first removed full more) = sound
clean_keeps IsRemoved k _ _ removes sound free (Does.Cleans n rest after short may unopposed) =
    cleaned-sound k n rest after short sound may.first (removes k.tree n after sound.valid sound.ascending sound.counts.node_numbers may.removed) may.needs may.in_numbers unopposed (clean-unplanned k free)
clean_keeps IsRemoved k _ _ removes sound free (Does.PutsOff n rest after short granule holder mode may off) = put_off-sound k n rest sound may.first
