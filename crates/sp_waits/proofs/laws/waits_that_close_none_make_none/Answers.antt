use Rattle.sp_waits.proofs.Acyclic.{wait-acyclic}
use Rattle.sp_waits.proofs.laws.waits_that_close_none_make_none.Goals as goal

pub returns : goal.returns
returns c = wait-acyclic
