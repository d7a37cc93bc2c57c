use Rattle.std.proofs.Common.{◌≡◌, drop, map}
use Rattle.std.specs.Prelude.{fold}
use Rattle.sp_rect.specs.Plane.{bound}
use Rattle.sp_needs.proofs.area.bound_of_children.Given as goal

abbrev pub invariant-bounding : goal.invariant-bounding
invariant-bounding l = fold bound l.bound (map (λ m. m.rect) (drop l.child-index l.rest)) ≡ fold bound l.initial.bound (map (λ m. m.rect) l.rest)
