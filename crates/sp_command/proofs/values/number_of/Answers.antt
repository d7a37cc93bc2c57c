use Rattle.std.proofs.Common.{arith}
use Rattle.sp_command.proofs.Numerals.{number_of-unparsed}
use Rattle.sp_command.proofs.values.number_of.Goals as goal

pub returns-in_default-clause-value : goal.returns-in_default-clause-value
returns-in_default-clause-value c =
    number_of-unparsed c.args.least c.args.most c.args.word.now c.in_default.field-0 (omega arith) c.in_default.ensures.value.0
