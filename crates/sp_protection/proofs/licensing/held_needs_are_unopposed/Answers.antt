use Rattle.sp_protection.proofs.licensing.held_needs_are_unopposed.Goals as goal
use Rattle.sp_protection.proofs.Reshapes.{held_unopposed}
use Rattle.sp_protection.proofs.Wanted.{unopposed_among}

pub returns-clause-held : goal.returns-clause-held
returns-clause-held c = held_unopposed

pub returns-clause-asked : goal.returns-clause-asked
returns-clause-asked c = unopposed_among
