use Rattle.sp_region.proofs.Holes.{shared_more}
use Rattle.sp_region.proofs.overlap.push_shared.Goals as goal

pub sharing-preserved : goal.sharing-preserved
sharing-preserved c holes p =
    shared_more c.args.rect.now holes p c.args.others.now c.sharing.other-index c.other-item.result c.common.result c.args.pending.now.items c.sharing.pending.items _ c.sharing-test.true c.other-item.is (c.common.ensures.points p) (c.sharing.invariant holes p)
    c.in_ok-push_strip.ensures
