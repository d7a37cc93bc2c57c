use Rattle.std.proofs.Common.{ℕ, List, subst, ◌∙◌, ap, get_or, take_all}
use Rattle.sp_node.specs.Plan.{planned}
use Rattle.sp_granule.specs.Granules.{granules}
use Rattle.sp_needs.specs.Affected.{IsLost, AreThose}
use Rattle.sp_needs.proofs.Membership.{member_at, clash}
use Rattle.sp_needs.proofs.Added.{those_one, those_none}
use Rattle.sp_needs.proofs.lost.lost.Goals as goal
use Rattle.sp_needs.proofs.lost.lost.Goals.{then-branch+in_ok-push, else-branch}

pub loop-number-preserved : goal.loop-number-preserved
loop-number-preserved c =
    let P : ℕ → Type 0 = IsLost (granules c.args.tree.now.table) (granules (planned c.args.tree.now.table c.args.plan.now)) in
    let xs = c.args.numbers.now in
    let i = c.loop-number.number-index in
    let x = get_or xs i 0 in
    let is = member_at xs i c.loop-number-test.true in
    elim c.if-branch.branch [
      | then-branch+in_ok-push w ↦ those_one P xs i x c.loop-number-test.true is c.loop-number.found.items c.if-branch.found.items c.loop-number.invariant (c.in_ok-is_lost.ensures.0 w.if-branch.true) (ap (λ v. v.items) w.found-is ∙ w.in_ok-push.ensures.items)
      | else-branch w ↦ those_none P xs i x c.loop-number-test.true is c.loop-number.found.items c.if-branch.found.items c.loop-number.invariant (λ h. clash c.in_ok-is_lost.field-0 (c.in_ok-is_lost.ensures.1 h) w.if-branch.false) (ap (λ v. v.items) w.found-is)
    ]

pub returns : goal.returns
returns c =
    subst (λ (ns : List ℕ). AreThose (IsLost (granules c.args.tree.now.table) (granules (planned c.args.tree.now.table c.args.plan.now))) ns c.loop-number.found.items) (take_all c.loop-number.number-index c.args.numbers.now c.loop-number-test.false) c.loop-number.invariant
