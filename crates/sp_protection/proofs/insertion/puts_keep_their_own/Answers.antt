use Rattle.sp_protection.proofs.insertion.puts_keep_their_own.Goals as goal
use Rattle.sp_protection.proofs.Rules.{put_keeps_searched, put_holds_own}

pub returns-clause-searched : goal.returns-clause-searched
returns-clause-searched c = put_keeps_searched

pub returns-clause-own : goal.returns-clause-own
returns-clause-own c = put_holds_own
