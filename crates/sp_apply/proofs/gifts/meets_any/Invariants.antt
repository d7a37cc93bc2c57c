use Rattle.std.proofs.Common.{take}
use Rattle.sp_rect.specs.Plane.{Rectangle}
use Rattle.sp_node.specs.Among.{Among}
use Rattle.sp_granule.specs.Granules.{granules, IsMeeting}
use Rattle.sp_apply.proofs.gifts.meets_any.Given as goal

abbrev pub invariant-rects : goal.invariant-rects
invariant-rects l = (rect : Rectangle) → Among rect (take l.rect-index l.rects) → IsMeeting (granules l.after) rect l.number → ⊥
