use Rattle.sp_protection.proofs.phantoms.changed_entries_are_owned.Goals as goal
use Rattle.sp_protection.proofs.Rules.{changed_owned}

pub returns : goal.returns
returns c = changed_owned
