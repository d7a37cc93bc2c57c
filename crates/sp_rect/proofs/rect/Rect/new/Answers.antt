use Rattle.std.proofs.Common.{w64, to_z, of_z}
use Rattle.sp_rect.proofs.Intervals.{first_is_coordinate, second_is_coordinate, narrowed}
use Rattle.sp_rect.proofs.rect.Rect.new.Goals as goal

pub narrow-requires : goal.narrow-requires
narrow-requires c = first_is_coordinate _ (to_z w64 (of_z w64 c.args.x2)) (cc)

pub narrow-requires-then-is_interval-2 : goal.narrow-requires-then-is_interval-2
narrow-requires-then-is_interval-2 c = first_is_coordinate _ (to_z w64 (of_z w64 c.args.y2)) (cc)

pub narrow-requires-then-is_interval-2-2 : goal.narrow-requires-then-is_interval-2-2
narrow-requires-then-is_interval-2-2 c = second_is_coordinate (to_z w64 (of_z w64 c.args.x1)) _ (cc)

pub narrow-requires-then-is_interval-2-3 : goal.narrow-requires-then-is_interval-2-3
narrow-requires-then-is_interval-2-3 c = second_is_coordinate (to_z w64 (of_z w64 c.args.y1)) _ (cc)

pub invariant_of-result : goal.invariant_of-result
invariant_of-result c =
    let x = narrowed _ _ _ _ (cc) c.narrow.ensures c.narrow-then-is_interval-2-2.ensures in
    let y = narrowed _ _ _ _ (cc) c.narrow-then-is_interval-2.ensures c.narrow-then-is_interval-2-3.ensures in
    record { left = x.low; across = x.ordered; right = x.high; lower = y.low; along = y.ordered; upper = y.high }
