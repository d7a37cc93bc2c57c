-- Lists of events with their answers: what they keep.
use Rattle.std.proofs.Common.{◌≡◌, List, [], ◌∷◌, ◌++◌, refl, ◌∙◌}
use Rattle.sp_event.specs.declared.event.Event.{Event}
use Rattle.sp_event.specs.declared.answer.Answer.{Answer}
use Rattle.sp_event.specs.declared.step.Step.{Step}
use Rattle.sp_model.specs.State.{Kernel}
use Rattle.sp_model.specs.Removal.{IsTakenOut}
use Rattle.sp_model.specs.Runs.{Runs}
use Rattle.sp_model.specs.Soundness.{Sound}
use Rattle.sp_model.proofs.Bases.{runs_base}
use Rattle.sp_model.proofs.Stepping.{stepped_keeps}
use Rattle.sp_kernel.specs.Answers.{Answers, Histories}
use Rattle.sp_kernel.proofs.Stopping.{stopped-sound}

pub answer_keeps : (k : Kernel) (event : Event) (answer : Answer) (after : Kernel) → Sound k → Answers k event answer after → Sound after
answer_keeps k event _ _ sound (Answers.IsStepped answer after stepped) = stepped_keeps IsTakenOut (λ t number t' valid ascending few taken. taken.keeps) k event answer after sound stepped
answer_keeps k event _ _ sound Answers.WantsMemory = sound
answer_keeps k event _ _ sound (Answers.Fails offset flush free some) = stopped-sound k offset sound

pub history_keeps : (k : Kernel) (steps : List Step) (last : Kernel) → Sound k → Histories k steps last → Sound last
history_keeps k _ _ sound Histories.Stays = sound
history_keeps k _ last sound (Histories.Goes between steps step goes answers) = answer_keeps between step.event step.answer last (history_keeps k steps between sound goes) answers

-- the records at opening stay
answer_base : (k : Kernel) (event : Event) (answer : Answer) (after : Kernel) → Answers k event answer after → after.base ≡ k.base
answer_base k event _ _ (Answers.IsStepped answer after stepped) = runs_base IsTakenOut k ([] ++ record { event = event; answer = answer } ∷ []) after (Runs.Goes k [] (record { event = event; answer = answer }) Runs.Stays stepped)
answer_base k event _ _ Answers.WantsMemory = refl
answer_base k event _ _ (Answers.Fails offset flush free some) = refl

pub history_base : (k : Kernel) (steps : List Step) (last : Kernel) → Histories k steps last → last.base ≡ k.base
history_base k _ _ Histories.Stays = refl
history_base k _ last (Histories.Goes between steps step goes answers) = answer_base between step.event step.answer last answers ∙ history_base k steps between goes
