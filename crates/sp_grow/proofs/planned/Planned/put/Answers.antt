use Rattle.std.proofs.Common.{sym, subst, is_ok}
use Rattle.sp_node.specs.Plan.{AreOrdered}
use Rattle.sp_grow.proofs.Renewed.{ordered_after}
use Rattle.sp_grow.proofs.planned.Planned.put.Goals as goal

pub invariant_of-self : goal.invariant_of-self
invariant_of-self c = subst AreOrdered (sym c.renew.ensures) (ordered_after (is_ok c.renew.result) c.self.inside.parts.items c.args.part c.self.invariant)
