use Rattle.std.proofs.Common.{◌∙◌, w64}
use Rattle.std.proofs.lemmas.Int.{to_z-of_z}
use Rattle.sp_rect.specs.Plane.{corners}
use Rattle.sp_node.proofs.Sample.{made_is}
use Rattle.sp_node.proofs.tests.rect.Goals as goal

pub returns-in-Ok : goal.returns-in-Ok
returns-in-Ok c = made_is _ _ _ _ _ c.in-Ok.ensures ∙ (λ i. corners (to_z-of_z w64 c.args.x1 c.ranges.x1 i) (to_z-of_z w64 c.args.y1 c.ranges.y1 i) (to_z-of_z w64 c.args.x2 c.ranges.x2 i) (to_z-of_z w64 c.args.y2 c.ranges.y2 i))
