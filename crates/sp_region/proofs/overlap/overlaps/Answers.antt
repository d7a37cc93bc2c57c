use Rattle.std.proofs.Common.{◌↔◌, IsTrue, Bool, ◌∙◌}
use Rattle.sp_region.specs.Cut.{IsAnyLeft}
use Rattle.sp_region.proofs.Left.{if_ok}
use Rattle.sp_region.proofs.Holes.{overlap_shared, overlap_none}
use Rattle.sp_region.proofs.overlap.overlaps.Goals as goal

pub returns-in_ok-uncut-in-Some : goal.returns-in_ok-uncut-in-Some
returns-in_ok-uncut-in-Some c =
    if_ok c.any_left.result
    (λ (any : Bool) (h : IsTrue any ↔ IsAnyLeft c.as_slice.result.now c.in_ok-uncut-in-Some.field-0.items).
    let w = overlap_shared c.args.rect.now c.args.holes.now c.args.other.now c.args.other_holes.now c.in-Some.shared c.as_slice.result.now c.in_ok-uncut-in-Some.field-0.items c.in-Some.ensures.points (c.as_slice.ensures.value ∙ c.in_ok-all-in-Some.ensures) c.in_ok-uncut-in-Some.ensures in
    (λ t. w.0 (h.0 t), λ t. h.1 (w.1 t)))
    c.any_left.ensures

pub returns-in-None : goal.returns-in-None
returns-in-None c = overlap_none c.args.rect.now c.args.holes.now c.args.other.now c.args.other_holes.now c.in-None.ensures.points
