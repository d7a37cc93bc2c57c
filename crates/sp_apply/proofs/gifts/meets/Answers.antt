use Rattle.std.proofs.Common.{sym, true≢false}
use Rattle.sp_region.specs.Region.{Overlap}
use Rattle.sp_granule.specs.Granules.{granules, IsMeeting}
use Rattle.sp_apply.proofs.Meetings.{meets_is, meets_none, by_overlap}
use Rattle.sp_apply.proofs.gifts.meets.Goals as goal

pub returns : goal.returns
returns c =
    let t = c.args.after.now in
    by_overlap c.overlaps-2.result (Overlap c.in-Some-space_in.space c.in_ok-holes.holes c.args.rect.now c.new.result) (IsMeeting (granules t) c.args.rect.now c.args.number)
    (meets_is t c.args.number c.in-Some.node.now c.in-Some-space_in.space c.args.rect.now c.in_ok-holes.holes c.new.result c.in-Some.ensures.valid c.in-Some.ensures.stands c.in-Some-space_in.ensures.value c.in_ok-holes.ensures c.new.ensures)
    c.overlaps-2.ensures

pub returns-in_default : goal.returns-in_default
returns-in_default c = (λ e. absurd (true≢false (sym e)), λ m. absurd (meets_none c.args.after.now c.args.number c.args.rect.now c.in_default.ensures.stands m))
