use Rattle.std.proofs.Common.{ℕ, List, subst}
use Rattle.sp_granule.specs.Granules.{granules}
use Rattle.sp_needs.specs.Affected.{HasLeftOf, AreAdded}
use Rattle.sp_needs.proofs.Losing.{added_all}
use Rattle.sp_needs.proofs.Outcome.{on_ok}
use Rattle.sp_needs.proofs.reached.push_reached.Goals as goal

pub returns : goal.returns
returns c =
    let t = c.args.tree.now.table in
    on_ok c.push_those.result
    (λ h. added_all (granules t) c.args.sources.now c.args.rect.now c.in_ok-meeting.meeting c.args.found.now.items c.push_those.new.found.items c.in_ok-meeting.ensures.exact (subst (λ (ns : List ℕ). AreAdded (HasLeftOf (granules t) c.args.sources.now c.args.rect.now) ns c.args.found.now.items c.push_those.new.found.items) c.as_slice.ensures h))
    c.push_those.ensures
