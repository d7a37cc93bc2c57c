use Rattle.sp_model.specs.Removal.{IsTakenOut}
use Rattle.sp_model.proofs.events.every_event_keeps_sound.Goals as goal
use Rattle.sp_model.proofs.Stepping.{stepped_keeps, runs_keep}

pub returns-clause-event : goal.returns-clause-event
returns-clause-event c = stepped_keeps IsTakenOut (λ t number t' valid ascending few taken. taken.keeps)

pub returns-clause-run : goal.returns-clause-run
returns-clause-run c = runs_keep IsTakenOut (λ t number t' valid ascending few taken. taken.keeps)
