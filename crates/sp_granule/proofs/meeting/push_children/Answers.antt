use Rattle.std.proofs.Common.{sym, refl}
use Rattle.sp_granule.proofs.Parts.{push_part}
use Rattle.sp_granule.proofs.meeting.push_children.Goals as goal

pub children-preserved-in-Continue-1 : goal.children-preserved-in-Continue-1
children-preserved-in-Continue-1 c =
    push_part c.args.rect.now c.args.children.now c.children.i c.index-children-i.result c.children-test.true c.children.auto.i c.index-children-i.is _ _ _ _ c.children.invariant
    (record { named = refl; valid = c.in-Some.ensures.valid; points = c.in-Some.ensures.points }) (sym c.in-Some.ensures.some) c.in_ok-push.ensures.items
