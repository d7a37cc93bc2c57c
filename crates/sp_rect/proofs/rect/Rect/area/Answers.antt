use Rattle.sp_rect.proofs.Corners.{wide_area}
use Rattle.sp_rect.proofs.rect.Rect.area.Goals as goal

pub overflow_mul-result : goal.overflow_mul-result
overflow_mul-result c = (wide_area _ _ c.self.invariant c.self.view_is _ _ _ _ c.from.ensures c.from-2.ensures c.from-3.ensures c.from-4.ensures).fits

pub returns : goal.returns
returns c =
    let w = wide_area _ _ c.self.invariant c.self.view_is _ _ _ _ c.from.ensures c.from-2.ensures c.from-3.ensures c.from-4.ensures in
    record { value = w.value; low = w.low; high = w.high }
