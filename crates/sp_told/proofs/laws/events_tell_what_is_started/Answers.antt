use Rattle.sp_told.proofs.Agreeing.{answers_started}
use Rattle.sp_told.proofs.laws.events_tell_what_is_started.Goals as goal

pub returns : goal.returns
returns c = λ l k event answer after sound t answers. answers_started l k t event answer after sound answers
