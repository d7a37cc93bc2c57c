use Rattle.std.proofs.Common.{refl, ap, ◌∙◌, ◌++◌, ◌+◌, arith}
use Rattle.sp_script.specs.Draws.{drawn}
use Rattle.sp_script.specs.Script.{script_text, round_text}
use Rattle.sp_script.proofs.Adding.{script-round, script_text-more}
use Rattle.sp_script.proofs.rounds.script.Goals as goal

pub rounds-init : goal.rounds-init
unfolding drawn script_text
rounds-init c = record { text = c.new-text.ensures; number = refl; small = omega arith }

pub rounds-preserved : goal.rounds-preserved
rounds-preserved c = record {
  text = c.in_ok-number.ensures.text ∙ ap (λ x. x ++ round_text (c.rounds.done + 1) c.rounds.number) c.rounds.invariant.text
      ∙ script_text-more c.args.seed c.rounds.done c.rounds.number c.rounds.invariant.number;
  number = script-round c.args.seed c.rounds.done c.rounds.number c.in_ok-number.number c.rounds.invariant.number c.in_ok-number.ensures.number;
  small = c.in_ok-number.ensures.bound;
}
