use Rattle.std.proofs.Common.{◌≡◌, ◌++◌}
use Rattle.std.proofs.lemmas.Result.{on_ok_weaker}
use Rattle.sp_region.specs.Cut.{pieces_of}
use Rattle.sp_region.proofs.Cuts.{cut_of}
use Rattle.sp_region.proofs.pieces.push_strips.Goals as goal

pub returns : goal.returns
returns c =
    on_ok_weaker {P = c.push_strip-4.new.pending.items ≡ c.push_strip-3.new.pending.items ++ pieces_of c.upper_strip.result c.args.next} c.push_strip-4.result
    (cut_of c.args.rect.now c.args.other.now c.left_strip.ensures.valid _ _ _ _ c.args.next _ _ _ _ _ c.left_strip.ensures.points c.right_strip.ensures c.lower_strip.ensures c.upper_strip.ensures
    c.in_ok-push_strip.ensures c.in_ok-push_strip-2.ensures c.in_ok-push_strip-3.ensures)
    c.push_strip-4.ensures
