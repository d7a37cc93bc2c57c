use Rattle.std.proofs.Common.{List, ap, sym, ◌∙◌, subst}
use Rattle.sp_node.specs.declared.plan.Part.{Part}
use Rattle.sp_node.specs.Plan.{AreOrdered}
use Rattle.sp_grow.specs.Overlay.{all_renewed}
use Rattle.sp_grow.proofs.Renewed.{all_renewed_last, ordered_renewed}
use Rattle.sp_grow.proofs.planned.renew_all.Goals as goal

pub loop-part-preserved : goal.loop-part-preserved
loop-part-preserved c = record {
  all = ap (λ (xs : List Part). all_renewed xs c.pop.new.self.items) c.in_ok-renew.ensures ∙ sym (all_renewed_last c.loop-part.parts.items c.pop.new.self.items c.in-Some.part) ∙ ap (all_renewed c.loop-part.parts.items) (sym c.in-Some.ensures.items) ∙ c.loop-part.invariant.all;
  ordered = λ o. subst AreOrdered (sym c.in_ok-renew.ensures) (ordered_renewed c.loop-part.parts.items c.in-Some.part (c.loop-part.invariant.ordered o));
}
