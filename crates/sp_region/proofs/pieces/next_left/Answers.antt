use Rattle.std.proofs.Common.{◌∙◌, ◌+◌, ap, sym, arith}
use Rattle.sp_rect.specs.Plane.{Rectangle, holds}
use Rattle.sp_region.specs.Cut.{one, times_left}
use Rattle.sp_region.proofs.Waiting.{times_taken, times_kept, burden_taken, burden_kept}
use Rattle.sp_region.proofs.pieces.next_left.Goals as goal

pub returns-in-None-clause-points : goal.returns-in-None-clause-points
returns-in-None-clause-points c p = c.cutting.invariant.same p ∙ times_taken c.args.others.now c.cutting.pending.items c.pop.new.self.items c.in-Some.piece c.in-Some.ensures.items p (c.in-None.ensures.none p)
    ∙ ap (λ (r : Rectangle). one (holds r p) + times_left c.args.others.now c.pop.new.self.items p) (sym c.as_left.ensures.same)

pub returns-in-None-clause-less : goal.returns-in-None-clause-less
returns-in-None-clause-less c =
    let l = burden_taken c.args.others.now c.cutting.pending.items c.pop.new.self.items c.in-Some.piece c.in-Some.ensures.items in
    omega arith

pub cutting-smaller : goal.cutting-smaller
cutting-smaller c =
    burden_kept c.args.others.now c.cutting.pending.items c.pop.new.self.items c.in-Some.piece c.in-Some.ensures.items c.index-others-at.result c.in-Some-first_meeting.at _ c.in-Some-first_meeting.ensures.behind c.in-Some-first_meeting.ensures.within c.in_ok-push_strips-in-Some-first_meeting.ensures

pub cutting-preserved : goal.cutting-preserved
cutting-preserved c =
    let l = cutting-smaller c in
    record {
      same = λ p.
          c.cutting.invariant.same p
          ∙ times_kept c.args.others.now c.cutting.pending.items c.pop.new.self.items c.in-Some.piece c.in-Some.ensures.items c.index-others-at.result c.in-Some-first_meeting.at _ p c.in-Some-first_meeting.ensures.within c.index-others-at.is (c.in-Some-first_meeting.ensures.some p) c.in_ok-push_strips-in-Some-first_meeting.ensures;
      less = omega (arith, l, c.cutting.invariant.less);
    }
