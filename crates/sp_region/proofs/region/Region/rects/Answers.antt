use Rattle.std.proofs.Common.{subst}
use Rattle.sp_region.specs.Region.{AreDisjoint}
use Rattle.sp_region.proofs.region.Region.rects.Goals as goal

pub returns-clause-disjoint : goal.returns-clause-disjoint
returns-clause-disjoint c = subst AreDisjoint c.self.view_is c.self.invariant
