use Rattle.std.proofs.Common.{Bool, ◌↔◌, IsTrue, sym, ◌∙◌, subst, refl}
use Rattle.std.proofs.lemmas.Result.{IfOk-weaker}
use Rattle.sp_node.specs.Look.{look}
use Rattle.sp_granule.specs.Granules.{granules}
use Rattle.sp_ops.specs.Changes.{AreAlike, IsKept}
use Rattle.sp_ops.proofs.Alike.{neither_has, first_has, both_have}
use Rattle.sp_ops.proofs.areas.is_kept.Goals as goal

pub returns-in_default : goal.returns-in_default
returns-in_default c =
    let h = neither_has c.args.before.now c.args.after.now c.root-old_root.ensures.valid c.root-new_root.ensures.valid c.args.number (sym c.in_ok-old.ensures ∙ c.in_default.is) (look c.args.after.now.nodes c.args.number) refl in
    subst (λ (b : Bool). IsTrue b ↔ IsKept (granules c.args.before.now) (granules c.args.after.now) c.args.number) (sym c.is_absent.ensures) h

pub returns-in_default-2 : goal.returns-in_default-2
returns-in_default-2 c =
    first_has c.args.before.now c.args.after.now c.root-old_root.ensures.valid c.root-new_root.ensures.valid c.args.number c.in-Some.old (sym c.in_ok-old.ensures ∙ c.in-Some.is) (sym c.in_ok-new.ensures ∙ c.in_default-2.is)

pub returns : goal.returns
returns c =
    let h = both_have c.args.before.now c.args.after.now c.root-old_root.ensures.valid c.root-new_root.ensures.valid c.args.number c.in-Some.old c.in-Some-2.new (sym c.in_ok-old.ensures ∙ c.in-Some.is) (sym c.in_ok-new.ensures ∙ c.in-Some-2.is) in
    IfOk-weaker c.are_alike.result (λ alike. IsTrue alike ↔ AreAlike c.in-Some.old c.in-Some-2.new) (λ kept. IsTrue kept ↔ IsKept (granules c.args.before.now) (granules c.args.after.now) c.args.number)
    (λ alike k. (λ e. h.0 (k.0 e), λ m. k.1 (h.1 m))) c.are_alike.ensures
