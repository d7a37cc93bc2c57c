use Rattle.std.proofs.Common.{◌∙◌, sym}
use Rattle.sp_region.proofs.Waiting.{passed}
use Rattle.sp_region.proofs.pieces.first_meeting.Goals as goal

pub seeking-preserved : goal.seeking-preserved
seeking-preserved c p = c.seeking.invariant p ∙ passed c.args.rect.now c.args.others.now c.seeking.at c.index-others-at.result c.seeking-test.true c.index-others-at.is (sym c.if-meets.ensures.value) p
