use Rattle.std.proofs.Common.{rules}
use Rattle.sp_text.proofs.SessionNames.{session_named}
use Rattle.sp_text.proofs.names.session_of.Goals as goal

pub returns-in_ok-count-in-len1-up-clause-named : goal.returns-in_ok-count-in-len1-up-clause-named
returns-in_ok-count-in-len1-up-clause-named c = session_named _ _ (search rules)
