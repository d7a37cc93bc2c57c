use Rattle.std.proofs.Common.{◌↔◌, IsTrue, Bool, List, subst}
use Rattle.sp_rect.specs.Plane.{Rectangle}
use Rattle.sp_region.specs.Region.{LeavesAny}
use Rattle.sp_region.specs.Cut.{IsAnyLeft}
use Rattle.sp_region.proofs.Left.{if_ok, whole_left}
use Rattle.sp_region.proofs.overlap.leaves_any.Goals as goal

pub returns : goal.returns
returns c =
    if_ok c.any_left.result
    (λ (any : Bool) (h : IsTrue any ↔ IsAnyLeft c.as_slice.result.now c.in_ok-uncut.field-0.items).
    let w = whole_left c.args.rect.now c.as_slice.result.now c.in_ok-uncut.field-0.items c.in_ok-uncut.ensures in
    subst (λ (others : List Rectangle). IsTrue any ↔ LeavesAny c.args.rect.now others) c.as_slice.ensures (λ t. w.0 (h.0 t), λ t. h.1 (w.1 t)))
    c.any_left.ensures
