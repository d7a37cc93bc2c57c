use Rattle.std.proofs.Common.{◌∙◌, ap, ap₂, ◌-ℤ◌}
use Rattle.sp_rect.specs.Plane.{area}
use Rattle.sp_rect.proofs.Corners.{wide_growth}
use Rattle.sp_rect.proofs.rect.Rect.growth.Goals as goal

pub overflow_sub-result : goal.overflow_sub-result
overflow_sub-result c = (wide_growth _ _ c.area.ensures.low c.area.ensures.high c.area-2.ensures.low c.area-2.ensures.high).fits

pub returns-clause-low : goal.returns-clause-low
returns-clause-low c = (wide_growth _ _ c.area.ensures.low c.area.ensures.high c.area-2.ensures.low c.area-2.ensures.high).low

pub returns-clause-high : goal.returns-clause-high
returns-clause-high c = (wide_growth _ _ c.area.ensures.low c.area.ensures.high c.area-2.ensures.low c.area-2.ensures.high).high

pub returns-clause-value : goal.returns-clause-value
returns-clause-value c =
    (wide_growth _ _ c.area.ensures.low c.area.ensures.high c.area-2.ensures.low c.area-2.ensures.high).value
    ∙ ap₂ ◌-ℤ◌ (c.area.ensures.value ∙ ap area c.bound.ensures) c.area-2.ensures.value
