use Rattle.std.proofs.Common.{◌≡◌, take, map}
use Rattle.sp_apply.proofs.gifts.rects_of.Given as goal

abbrev pub invariant-rects : goal.invariant-rects
invariant-rects l = l.rects.items ≡ map (λ c. c.rect) (take l.child-index l.children)
