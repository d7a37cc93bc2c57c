use Rattle.std.proofs.Common.{◌∙◌, ap, ap₂, ◌-ℤ◌}
use Rattle.sp_rect.specs.Plane.{area}
use Rattle.sp_split.proofs.Wide.{waste_fits}
use Rattle.sp_split.proofs.seed.waste_of.Goals as goal

pub overflow_sub-result : goal.overflow_sub-result
overflow_sub-result c = (waste_fits c.area.result c.area-2.result c.area-2.result c.area.ensures.low c.area.ensures.high c.area-2.ensures.low c.area-2.ensures.high c.area-2.ensures.low c.area-2.ensures.high).first

pub overflow_sub-result-2 : goal.overflow_sub-result-2
overflow_sub-result-2 c = (waste_fits c.area.result c.area-2.result c.area-3.result c.area.ensures.low c.area.ensures.high c.area-2.ensures.low c.area-2.ensures.high c.area-3.ensures.low c.area-3.ensures.high).second

pub returns : goal.returns
returns c =
    (waste_fits c.area.result c.area-2.result c.area-3.result c.area.ensures.low c.area.ensures.high c.area-2.ensures.low c.area-2.ensures.high c.area-3.ensures.low c.area-3.ensures.high).value
    ∙ ap₂ ◌-ℤ◌ (ap₂ ◌-ℤ◌ (c.area.ensures.value ∙ ap area c.bound.ensures) c.area-2.ensures.value) c.area-3.ensures.value
