use Rattle.sp_rect.specs.Store.{part_of}
use Rattle.sp_granule.specs.Granules.{granules}
use Rattle.sp_protection.proofs.replays.own_locks_are_enough.Goals as goal
use Rattle.sp_protection.proofs.Marking.{guarded_still, owned_still, part_still}

pub returns-clause-guarded : goal.returns-clause-guarded
returns-clause-guarded c = λ tree locks left t rect kept. guarded_still locks left t kept (granules tree) rect

pub returns-clause-owned : goal.returns-clause-owned
returns-clause-owned c = λ tree locks left t e kept. owned_still locks left t kept (granules tree) e

pub returns-clause-parts : goal.returns-clause-parts
returns-clause-parts c = λ tree locks left t pairs kept parts pair i. part_still locks left t kept (granules tree) (part_of pair.op) (parts pair i)
