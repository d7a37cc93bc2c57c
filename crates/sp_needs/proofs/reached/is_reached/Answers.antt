use Rattle.std.proofs.Common.{◌≡◌, Bool, true, false, ◌↔◌, IsTrue, sym, ◌∙◌}
use Rattle.sp_region.specs.Region.{Overlap}
use Rattle.sp_granule.specs.Granules.{granules}
use Rattle.sp_needs.specs.Affected.{HasLeftOf}
use Rattle.sp_needs.proofs.Losing.{none_reached, reached_is}
use Rattle.sp_needs.proofs.Outcome.{if_ok}
use Rattle.sp_needs.proofs.reached.is_reached.Goals as goal

no : false ≡ true → ⊥
no e = cc

pub returns-in_default : goal.returns-in_default
returns-in_default c =
    let t = c.args.tree.now.table in
    (λ e. absurd (no e), λ h. absurd (none_reached t c.before-2.ensures.valid c.args.sources.now c.args.rect.now c.args.number (sym c.in_ok-area.ensures.area ∙ c.in_default.is) h))

pub returns : goal.returns
returns c =
    let t = c.args.tree.now.table in
    let is = reached_is t c.before-2.ensures.valid c.args.sources.now c.args.rect.now c.args.number c.in-Some.area (sym c.in_ok-area.ensures.area ∙ c.in-Some.is) in
    if_ok {P = λ (any : Bool). IsTrue any ↔ Overlap c.args.rect.now c.args.sources.now c.in-Some.area.space c.in-Some.area.holes} {Q = λ (any : Bool). IsTrue any ↔ HasLeftOf (granules t) c.args.sources.now c.args.rect.now c.args.number} c.overlaps.result
    (λ any h. (λ e. is.0 (h.0 e), λ e. h.1 (is.1 e))) c.overlaps.ensures
