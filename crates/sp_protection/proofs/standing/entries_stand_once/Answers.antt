use Rattle.sp_protection.proofs.standing.entries_stand_once.Goals as goal
use Rattle.sp_protection.proofs.Places.{one_leaf, granule_below_next}

pub returns-clause-once : goal.returns-clause-once
returns-clause-once c = one_leaf

pub returns-clause-below : goal.returns-clause-below
returns-clause-below c = granule_below_next
