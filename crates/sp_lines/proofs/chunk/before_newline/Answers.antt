use Rattle.sp_lines.proofs.Fronts.{before_found, before_none}
use Rattle.sp_lines.proofs.chunk.before_newline.Goals as goal

pub returns-in-Some : goal.returns-in-Some
returns-in-Some c = before_found c.args.bytes.now c.in-Some.at c.in-Some.ensures

pub returns-in-None : goal.returns-in-None
returns-in-None c = before_none c.args.bytes.now c.in-None.ensures
