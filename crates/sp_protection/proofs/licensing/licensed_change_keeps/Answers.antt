use Rattle.sp_granule.specs.Granules.{granules}
use Rattle.sp_protection.proofs.licensing.licensed_change_keeps.Goals as goal
use Rattle.sp_protection.proofs.Reshapes.{guarded_kept, owned_kept, removal_keeps_guarded, removal_keeps_owned}

pub returns-clause-guarded : goal.returns-clause-guarded
returns-clause-guarded c = λ before after. guarded_kept (granules before) (granules after)

pub returns-clause-owned : goal.returns-clause-owned
returns-clause-owned c = λ before after. owned_kept (granules before) (granules after)

pub returns-clause-guarded_by_all : goal.returns-clause-guarded_by_all
returns-clause-guarded_by_all c = λ before after. removal_keeps_guarded (granules before) (granules after)

pub returns-clause-owned_by_all : goal.returns-clause-owned_by_all
returns-clause-owned_by_all c = λ before after. removal_keeps_owned (granules before) (granules after)
