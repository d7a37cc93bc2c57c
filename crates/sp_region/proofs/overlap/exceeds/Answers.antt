use Rattle.std.proofs.Common.{◌↔◌, IsTrue, Bool, List, subst}
use Rattle.sp_rect.specs.Plane.{Rectangle}
use Rattle.sp_region.specs.declared.pieces.Piece.{Piece}
use Rattle.sp_region.specs.Region.{Exceeds}
use Rattle.sp_region.specs.Cut.{IsAnyLeft, IsCut, IsShared}
use Rattle.sp_region.proofs.Left.{if_ok}
use Rattle.sp_region.proofs.Holes.{exceeds_pieces}
use Rattle.sp_region.proofs.overlap.exceeds.Goals as goal

pub returns : goal.returns
returns c =
    let cut = subst (λ (old : List Piece). IsCut c.args.rect.now c.args.other.now 0 old c.push_strips.new.pending.items) c.new-pending.ensures.items c.in_ok-push_strips.ensures in
    let shared = subst (λ (others : List Rectangle). IsShared c.args.rect.now others c.push_strips.new.pending.items c.push_shared.new.pending.items) c.as_slice.ensures c.in_ok-push_shared.ensures in
    if_ok c.any_left.result
    (λ (any : Bool) (h : IsTrue any ↔ IsAnyLeft c.as_slice-2.result.now c.push_shared.new.pending.items).
    let w = exceeds_pieces c.args.rect.now c.args.other.now c.as_slice-2.result.now c.args.other_holes.now c.push_strips.new.pending.items c.push_shared.new.pending.items cut shared in
    subst (λ (holes : List Rectangle). IsTrue any ↔ Exceeds c.args.rect.now holes c.args.other.now c.args.other_holes.now) c.as_slice-2.ensures (λ t. w.0 (h.0 t), λ t. h.1 (w.1 t)))
    c.any_left.ensures
