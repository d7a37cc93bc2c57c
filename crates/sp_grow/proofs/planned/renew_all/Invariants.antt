use Rattle.std.proofs.Common.{◌≡◌, length}
use Rattle.sp_node.specs.Plan.{AreOrdered}
use Rattle.sp_grow.specs.Overlay.{all_renewed}
use Rattle.sp_grow.proofs.planned.renew_all.Given as goal

abbrev pub invariant-loop-part : goal.invariant-loop-part
invariant-loop-part l = record {
  all : all_renewed l.parts.items l.more.items ≡ all_renewed l.fn.parts.items l.fn.more.items;
  ordered : AreOrdered l.fn.parts.items → AreOrdered l.parts.items;
}

abbrev pub decreases-loop-part : goal.decreases-loop-part
decreases-loop-part l = length l.more.items
