use Rattle.sp_granule.specs.Granules.{granules}
use Rattle.sp_protection.proofs.licensing.short_needs_license.Goals as goal
use Rattle.sp_protection.proofs.Reshapes.{short_license_removal, needs_license_put}

pub returns-clause-removal : goal.returns-clause-removal
returns-clause-removal c = λ before after. short_license_removal (granules before) (granules after)

pub returns-clause-put : goal.returns-clause-put
returns-clause-put c = λ before after. needs_license_put (granules before) (granules after)
