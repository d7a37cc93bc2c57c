use Rattle.std.proofs.Common.{◌∙◌, ap, ap₂, ◌-ℤ◌}
use Rattle.sp_rect.specs.Plane.{area}
use Rattle.sp_grow.proofs.Wide.{wide_difference}
use Rattle.sp_grow.proofs.choice.cost_of.Goals as goal

pub returns-clause-growth : goal.returns-clause-growth
returns-clause-growth c =
    wide_difference _ _ c.area.ensures.low c.area.ensures.high c.area-area.ensures.low c.area-area.ensures.high
    ∙ ap₂ ◌-ℤ◌ (c.area.ensures.value ∙ ap area c.bound.ensures) c.area-area.ensures.value
