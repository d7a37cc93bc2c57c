use Rattle.sp_granule.specs.Granules.{granules}
use Rattle.sp_protection.proofs.licensing.needs_license.Goals as goal
use Rattle.sp_protection.proofs.Rules.{removal_licensed, put_licensed}

pub returns-clause-removal : goal.returns-clause-removal
returns-clause-removal c = λ before after. removal_licensed (granules before) (granules after)

pub returns-clause-put : goal.returns-clause-put
returns-clause-put c = λ before after. put_licensed (granules before) (granules after)
