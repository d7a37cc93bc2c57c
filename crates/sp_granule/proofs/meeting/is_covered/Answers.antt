use Rattle.sp_granule.proofs.Covered.{none_left}
use Rattle.sp_granule.proofs.meeting.is_covered.Goals as goal

pub returns-then-encloses : goal.returns-then-encloses
returns-then-encloses c = λ _. none_left c.args.part.now c.args.children.now c.loop-child.child-index c.child-item.result c.loop-child-test.true c.child-item.is (c.encloses.ensures.points.0 c.if-encloses.true)
