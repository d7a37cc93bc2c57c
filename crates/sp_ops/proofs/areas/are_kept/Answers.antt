use Rattle.sp_granule.specs.Granules.{granules}
use Rattle.sp_ops.specs.Changes.{IsKept}
use Rattle.sp_ops.proofs.Alike.{kept_more}
use Rattle.sp_ops.proofs.areas.are_kept.Goals as goal

pub loop-number-preserved : goal.loop-number-preserved
loop-number-preserved c =
    kept_more (IsKept (granules c.args.before.now) (granules c.args.after.now)) c.args.numbers.now c.loop-number.number-index 0 c.loop-number-test.true c.loop-number.invariant (c.in_ok-is_kept.ensures.0 c.if-not-branch.false)
