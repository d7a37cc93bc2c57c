use Rattle.std.proofs.Common.{◌≡◌, ◌++◌, take}
use Rattle.sp_grow.proofs.left.extend.Given as goal

abbrev pub invariant-loop-child : goal.invariant-loop-child
invariant-loop-child l = l.items.items ≡ l.fn.items.items ++ take l.child-index l.more
