use Rattle.sp_lawful.proofs.insertion.insertions_are_lawful.Goals as goal
use Rattle.sp_lawful.proofs.Inserting.{is_new, inserts, enters_or_gives}

pub returns-clause-new : goal.returns-clause-new
returns-clause-new c = is_new

pub returns-clause-inserts : goal.returns-clause-inserts
returns-clause-inserts c = inserts

pub returns-clause-enters : goal.returns-clause-enters
returns-clause-enters c = enters_or_gives
