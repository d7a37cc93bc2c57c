use Rattle.std.proofs.Common.{◌≡◌, Bool, true, false, ◌↔◌, IsTrue, refl, sym, ◌∙◌}
use Rattle.sp_region.specs.Region.{Exceeds}
use Rattle.sp_node.specs.Plan.{planned}
use Rattle.sp_granule.specs.Granules.{granules}
use Rattle.sp_needs.specs.Affected.{IsLost}
use Rattle.sp_needs.proofs.Losing.{none_lost, gone_lost, exceeds_is}
use Rattle.sp_needs.proofs.Outcome.{if_ok}
use Rattle.sp_needs.proofs.lost.is_lost.Goals as goal

no : false ≡ true → ⊥
no e = cc

pub returns-in_default : goal.returns-in_default
returns-in_default c =
    let t = c.args.tree.now.table in
    let t' = planned t c.args.plan.now in
    (λ e. absurd (no e), λ h. absurd (none_lost t t' c.before-2.ensures.valid c.requires.valid c.args.number (sym c.in_ok-old.ensures.area ∙ c.in_default.is) h))

pub returns-in_default-2 : goal.returns-in_default-2
returns-in_default-2 c =
    let t = c.args.tree.now.table in
    let t' = planned t c.args.plan.now in
    (λ e. gone_lost t t' c.before-2.ensures.valid c.requires.valid c.args.number c.in-Some.old (sym c.in_ok-old.ensures.area ∙ c.in-Some.is) (sym c.in_ok-new.ensures ∙ c.in_default-2.is), λ h. refl)

pub returns : goal.returns
returns c =
    let t = c.args.tree.now.table in
    let t' = planned t c.args.plan.now in
    let is = exceeds_is t t' c.before-2.ensures.valid c.requires.valid c.args.number c.in-Some.old c.in-Some-2.new (sym c.in_ok-old.ensures.area ∙ c.in-Some.is) (sym c.in_ok-new.ensures ∙ c.in-Some-2.is) in
    if_ok {P = λ (any : Bool). IsTrue any ↔ Exceeds c.in-Some.old.space c.in-Some.old.holes c.in-Some-2.new.space c.in-Some-2.new.holes} {Q = λ (any : Bool). IsTrue any ↔ IsLost (granules t) (granules t') c.args.number} c.exceeds.result
    (λ any h. (λ e. is.0 (h.0 e), λ e. h.1 (is.1 e))) c.exceeds.ensures
