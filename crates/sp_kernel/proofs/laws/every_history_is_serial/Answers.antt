use Rattle.std.proofs.Common.{◌≡◌, List, ap, ◌∙◌, subst}
use Rattle.sp_rect.specs.declared.record.Record.{Record}
use Rattle.sp_rect.specs.Serial.{Serial, after_all}
use Rattle.sp_granule.proofs.Covering.{covers_space}
use Rattle.sp_model.proofs.Stepping.{opened_whole}
use Rattle.sp_kernel.proofs.Going.{history_keeps, history_base}
use Rattle.sp_kernel.proofs.laws.every_history_is_serial.Goals as goal

pub returns-clause-serial : goal.returns-clause-serial
returns-clause-serial c = λ shape records k steps last v ordered few o goes.
    let sound = history_keeps k steps last (opened_whole shape records k v ordered few o) goes in
    let base : last.base ≡ records = history_base k steps last goes ∙ o.base in (
      subst (λ (rs : List Record). Serial rs last.commits) base sound.serial,
      sound.current ∙ ap (λ (rs : List Record). after_all rs last.commits) base,
    )

pub returns-clause-covered : goal.returns-clause-covered
returns-clause-covered c = λ k steps last p sound goes. covers_space last.tree p

pub returns-clause-acyclic : goal.returns-clause-acyclic
returns-clause-acyclic c = λ k steps last sound goes. (history_keeps k steps last sound goes).acyclic
