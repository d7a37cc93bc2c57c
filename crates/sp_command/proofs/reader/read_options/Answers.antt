use Rattle.std.proofs.Common.{ap, ◌∙◌, sym}
use Rattle.std.specs.Option.{option_and_then}
use Rattle.sp_command.specs.Reading.{finished}
use Rattle.sp_command.proofs.Walking.{steps-one, steps-none}
use Rattle.sp_command.proofs.reader.read_options.Goals as goal

pub returns-in_default-2 : goal.returns-in_default-2
returns-in_default-2 c =
    let ends = steps-none c.args.words.now c.words.i c.in-Some.word.now c.words.reader c.in-Some.ensures (sym c.in_default-2.is ∙ c.in_ok-next.ensures) in
    ap (option_and_then finished) (ends ∙ c.words.invariant)

pub words-preserved : goal.words-preserved
words-preserved c =
    steps-one c.args.words.now c.words.i c.in-Some.word.now c.words.reader c.in-Some-2.next c.in-Some.ensures (sym c.in-Some-2.is ∙ c.in_ok-next.ensures) ∙ c.words.invariant
