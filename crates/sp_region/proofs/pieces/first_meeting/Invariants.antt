use Rattle.std.proofs.Common.{◌≡◌, drop}
use Rattle.sp_rect.specs.Plane.{Point}
use Rattle.sp_region.specs.Region.{is_left}
use Rattle.sp_region.proofs.pieces.first_meeting.Given as goal

abbrev pub invariant-seeking : goal.invariant-seeking
invariant-seeking l = (p : Point) → is_left l.rect (drop l.from l.others) p ≡ is_left l.rect (drop l.at l.others) p
