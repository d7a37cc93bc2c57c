use Rattle.std.proofs.Common.{drop}
use Rattle.sp_granule.specs.Visit.{AreAdded}
use Rattle.sp_granule.proofs.meeting.push_children.Given as goal

abbrev pub invariant-children : goal.invariant-children
invariant-children l = AreAdded l.rect (drop l.i l.children) l.fn.pending.items l.pending.items
