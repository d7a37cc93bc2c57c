use Rattle.std.proofs.Common.{refl, ap, ◌∙◌}
use Rattle.sp_script.specs.Draws.{drawn}
use Rattle.sp_script.proofs.Adding.{drawn-add, turns-added}
use Rattle.sp_script.proofs.rounds.push_turns.Goals as goal

pub returns-clause-text : goal.returns-clause-text
returns-clause-text c =
    turns-added c.args.text.now _ _ _ c.args.round c.args.number c.in_ok-second.second c.in_ok-third.third c.in_ok-second.ensures.text
    c.in_ok-third.ensures.text c.in_ok-last.ensures.text c.in_ok-second.ensures.number c.in_ok-third.ensures.number

pub returns-clause-number : goal.returns-clause-number
returns-clause-number c =
    c.in_ok-last.ensures.number ∙ ap (λ n. drawn n 6) (c.in_ok-third.ensures.number ∙ ap (λ n. drawn n 6) c.in_ok-second.ensures.number ∙ drawn-add c.args.number 6 6 12 refl)
    ∙ drawn-add c.args.number 12 6 18 refl
