use Rattle.std.proofs.Common.{map}
use Rattle.sp_grow.proofs.Better.{Best}
use Rattle.sp_grow.proofs.choice.choose_child.Given as goal

abbrev pub invariant-loop-i : goal.invariant-loop-i
invariant-loop-i l = Best l.rect (map (λ c. c.rect) l.children) l.i l.best l.least.growth l.least.area
