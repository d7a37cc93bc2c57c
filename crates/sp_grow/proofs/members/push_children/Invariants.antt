use Rattle.std.proofs.Common.{◌≡◌, ◌++◌, take, map}
use Rattle.sp_grow.proofs.members.push_children.Given as goal

abbrev pub invariant-loop-child : goal.invariant-loop-child
invariant-loop-child l = l.rects.items ≡ l.fn.rects.items ++ map (λ m. m.rect) (take l.child-index l.children)
