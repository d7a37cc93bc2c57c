use Rattle.std.proofs.Common.{rules}
use Rattle.sp_text.specs.Grammar.{said}
use Rattle.sp_text.proofs.Reasons.{bad_as}
use Rattle.sp_text.proofs.Spelling.{spelled_as}
use Rattle.sp_text.proofs.read.read_line.Goals as goal

pub returns-in-Ok-clause-reasons : goal.returns-in-Ok-clause-reasons
unfolding said
returns-in-Ok-clause-reasons c = bad_as c.args.form _ _ (search rules)

pub returns-in-Ok-clause-spelled : goal.returns-in-Ok-clause-spelled
unfolding said
returns-in-Ok-clause-spelled c = spelled_as c.args.form _ _ (search rules)
