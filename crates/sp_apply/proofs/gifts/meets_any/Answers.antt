use Rattle.std.proofs.Common.{List, subst}
use Rattle.std.proofs.lemmas.List.{take_all}
use Rattle.sp_rect.specs.Plane.{Rectangle}
use Rattle.sp_node.specs.Among.{Among}
use Rattle.sp_granule.specs.Granules.{granules, IsMeeting}
use Rattle.sp_apply.proofs.Meetings.{among_item, none_more}
use Rattle.sp_apply.proofs.gifts.meets_any.Goals as goal

pub returns : goal.returns
returns c = subst (λ (rs : List Rectangle). (rect : Rectangle) → Among rect rs → IsMeeting (granules c.args.after.now) rect c.args.number → ⊥) (take_all c.rects.rect-index c.args.rects.now c.rects-test.false) c.rects.invariant

pub returns-then-branch : goal.returns-then-branch
returns-then-branch c = (c.rect-item.result, among_item c.args.rects.now c.rects.rect-index c.rect-item.result c.rects-test.true c.rect-item.is, c.in_ok-meets.ensures.0 c.if-branch.true)

pub rects-preserved : goal.rects-preserved
rects-preserved c =
    none_more c.args.after.now c.args.number c.args.rects.now c.rects.rect-index c.rect-item.result c.rects-test.true c.rect-item.is c.rects.invariant c.in_ok-meets.field-0 c.if-branch.false c.in_ok-meets.ensures.1
