use Rattle.sp_ending.proofs.Opposition.{at-among, first-is, unopposed-more}
use Rattle.sp_ending.proofs.opposing.first_opposed.Goals as goal

pub opposed_on-requires : goal.opposed_on-requires
opposed_on-requires c = c.requires _ (at-among c.args.needs.now c.needs.need-index _ c.needs-test.true)

pub returns-in-Some : goal.returns-in-Some
returns-in-Some c = first-is c.args.locks.now c.args.needs.now c.needs.need-index _ c.in-Some.found c.needs-test.true c.needs.invariant c.in-Some.ensures

pub needs-preserved : goal.needs-preserved
needs-preserved c = unopposed-more c.args.locks.now c.args.needs.now c.needs.need-index _ c.needs-test.true c.needs.invariant c.in_default.ensures
