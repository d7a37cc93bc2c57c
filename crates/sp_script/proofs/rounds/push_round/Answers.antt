use Rattle.std.proofs.Common.{refl, ap, ◌∙◌}
use Rattle.sp_script.specs.Draws.{drawn}
use Rattle.sp_script.proofs.Adding.{drawn-add}
use Rattle.sp_script.proofs.rounds.push_round.Goals as goal

pub returns-clause-number : goal.returns-clause-number
returns-clause-number c =
    c.in_ok-last.ensures.number ∙ ap (λ n. drawn n 18) c.in_ok-half.ensures.number ∙ drawn-add c.args.number 18 18 36 refl
