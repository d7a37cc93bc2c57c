use Rattle.std.proofs.Common.{subst, sym, ◌↔◌, IsTrue, Bool}
use Rattle.sp_region.specs.Cut.{IsAnyLeft}
use Rattle.sp_region.proofs.Left.{any_of}
use Rattle.sp_region.proofs.pieces.any_left.Goals as goal

pub returns : goal.returns
returns c =
    let h = any_of c.args.others.now c.args.pending.items _ c.in_ok-next_left.field-0 c.in_ok-next_left.ensures.points c.in_ok-next_left.ensures.none c.in_ok-next_left.ensures.valid in
    subst (λ (b : Bool). IsTrue b ↔ IsAnyLeft c.args.others.now c.args.pending.items) (sym c.is_some.ensures) h
