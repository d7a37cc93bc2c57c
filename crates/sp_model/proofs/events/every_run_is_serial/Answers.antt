use Rattle.sp_event.specs.declared.step.Step.{Step}
use Rattle.std.proofs.Common.{◌≡◌, List, ap, ◌∙◌, subst}
use Rattle.sp_rect.specs.declared.record.Record.{Record}
use Rattle.sp_rect.specs.Serial.{Serial, after_all}
use Rattle.sp_model.proofs.Bases.{runs_base}
use Rattle.sp_granule.proofs.Covering.{covers_space}
use Rattle.sp_model.specs.State.{Kernel}
use Rattle.sp_model.specs.Removal.{IsTakenOut}
use Rattle.sp_model.specs.Runs.{Runs}
use Rattle.sp_model.specs.Soundness.{Sound}
use Rattle.sp_model.proofs.events.every_run_is_serial.Goals as goal
use Rattle.sp_model.proofs.Stepping.{runs_keep, opened_whole}

sound_after : (k : Kernel) (steps : List Step) (last : Kernel) → Sound k → Runs IsTakenOut k steps last → Sound last
sound_after = runs_keep IsTakenOut (λ t number t' valid ascending few taken. taken.keeps)

pub returns-clause-opened : goal.returns-clause-opened
returns-clause-opened c = λ shape records k steps last v ordered few o runs.
    let sound = sound_after k steps last (opened_whole shape records k v ordered few o) runs in
    let base : last.base ≡ records = runs_base IsTakenOut k steps last runs ∙ o.base in (
      subst (λ (rs : List Record). Serial rs last.commits) base sound.serial,
      sound.current ∙ ap (λ (rs : List Record). after_all rs last.commits) base,
    )

pub returns-clause-serial : goal.returns-clause-serial
returns-clause-serial c = λ k steps last sound runs. (sound_after k steps last sound runs).serial

pub returns-clause-current : goal.returns-clause-current
returns-clause-current c = λ k steps last sound runs. (sound_after k steps last sound runs).current

pub returns-clause-covered : goal.returns-clause-covered
returns-clause-covered c = λ k steps last p sound runs. covers_space last.tree p

pub returns-clause-acyclic : goal.returns-clause-acyclic
returns-clause-acyclic c = λ k steps last sound runs. (sound_after k steps last sound runs).acyclic
