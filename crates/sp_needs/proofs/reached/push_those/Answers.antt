use Rattle.std.proofs.Common.{ℕ, List, subst, ◌∙◌, ap, get_or, take_all}
use Rattle.sp_granule.specs.Granules.{granules}
use Rattle.sp_needs.specs.Affected.{HasLeftOf, AreAdded}
use Rattle.sp_needs.proofs.Membership.{member_at, clash}
use Rattle.sp_needs.proofs.Added.{added_one, added_none}
use Rattle.sp_needs.proofs.reached.push_those.Goals as goal
use Rattle.sp_needs.proofs.reached.push_those.Goals.{then-branch+in_ok-push, else-branch}

pub loop-number-preserved : goal.loop-number-preserved
loop-number-preserved c =
    let P : ℕ → Type 0 = HasLeftOf (granules c.args.tree.now.table) c.args.sources.now c.args.rect.now in
    let xs = c.args.numbers.now in
    let i = c.loop-number.number-index in
    let x = get_or xs i 0 in
    let is = member_at xs i c.loop-number-test.true in
    elim c.if-branch.branch [
      | then-branch+in_ok-push w ↦ added_one P xs i x c.loop-number-test.true is c.args.found.now.items c.loop-number.found.items c.if-branch.found.items c.loop-number.invariant (c.in_ok-is_reached.ensures.0 w.if-branch.true) (ap (λ v. v.items) w.found-is ∙ w.in_ok-push.ensures.items)
      | else-branch w ↦ added_none P xs i x c.loop-number-test.true is c.args.found.now.items c.loop-number.found.items c.if-branch.found.items c.loop-number.invariant (λ h. clash c.in_ok-is_reached.field-0 (c.in_ok-is_reached.ensures.1 h) w.if-branch.false) (ap (λ v. v.items) w.found-is)
    ]

pub returns : goal.returns
returns c =
    subst (λ (ns : List ℕ). AreAdded (HasLeftOf (granules c.args.tree.now.table) c.args.sources.now c.args.rect.now) ns c.args.found.now.items c.loop-number.found.items) (take_all c.loop-number.number-index c.args.numbers.now c.loop-number-test.false) c.loop-number.invariant
