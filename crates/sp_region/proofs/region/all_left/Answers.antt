use Rattle.std.proofs.Common.{◌≡◌, [], Option, IfNone, subst, ap, arith}
use Rattle.sp_rect.specs.Plane.{Rectangle}
use Rattle.sp_region.specs.Region.{held_by}
use Rattle.sp_region.specs.Cut.{one}
use Rattle.sp_region.proofs.Left.{none_times}
use Rattle.sp_region.proofs.region.all_left.Goals as goal

pub returns-in-None : goal.returns-in-None
returns-in-None c p =
    let empty = subst (λ (o : Option Rectangle). IfNone o (c.next_left.new.pending.items ≡ [])) c.in-None.is c.in_ok-next_left.ensures.none in
    let none = none_times c.args.others.now c.next_left.new.pending.items p empty in
    let before = c.taking.invariant p in
    let turn = c.in_ok-next_left.ensures.points p in
    let no_piece = ap (λ (o : Option Rectangle). one (held_by o p)) c.in-None.is in
    omega (arith, none, before, turn, no_piece)
