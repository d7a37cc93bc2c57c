use Rattle.sp_lawful.proofs.insertion.puts_keep_all.Goals as goal
use Rattle.sp_lawful.proofs.Putting.{put_keeps_all, put_still_guards}

pub returns-clause-keeps : goal.returns-clause-keeps
returns-clause-keeps c = put_keeps_all

pub returns-clause-searched : goal.returns-clause-searched
returns-clause-searched c = put_still_guards
