use Rattle.sp_rect.proofs.Corners.{holds_stored}
use Rattle.sp_rect.proofs.rect.Rect.holds_at.Goals as goal

pub returns : goal.returns
returns c = holds_stored _ _ c.self.invariant c.self.view_is c.args.x c.args.y c.ranges.x c.ranges.y
