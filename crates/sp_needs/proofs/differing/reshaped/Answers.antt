use Rattle.std.proofs.Common.{ℕ, ◌+◌, List, [], ◌∷◌, ◌++◌, map, take, ◌∙◌, ap, sym, subst}
use Rattle.sp_node.specs.Plan.{number_of, planned}
use Rattle.sp_granule.specs.Granules.{granules}
use Rattle.sp_needs.specs.Affected.{IsKept, AreKeptBut}
use Rattle.sp_needs.proofs.Granules.{same_leaf}
use Rattle.sp_needs.proofs.Parts.{kept_one, named_one}
use Rattle.sp_needs.proofs.differing.reshaped.Goals as goal
use Rattle.sp_needs.proofs.differing.reshaped.Goals.{then-not-is_same_leaf+in_ok-push, else-not-is_same_leaf}

pub loop-part-preserved : goal.loop-part-preserved
loop-part-preserved c =
    let t = c.args.tree.now.table in
    let t' = planned t c.args.plan.now in
    let ps = c.as_slice-part-items.result.now in
    let i = c.loop-part.part-index in
    let before = c.loop-part.numbers.items in
    let after = c.if-not-is_same_leaf.numbers.items in
    elim c.if-not-is_same_leaf.branch [
      | then-not-is_same_leaf+in_ok-push w ↦ named_one (granules t) (granules t') ps i c.part-item.result c.loop-part-test.true c.part-item.is before c.loop-part.invariant after
          (ap (λ v. v.items) w.numbers-is ∙ w.in_ok-push.ensures.items ∙ ap (λ (k : ℕ). before ++ k ∷ []) c.number-number.ensures)
      | else-not-is_same_leaf w ↦
          let same = same_leaf t t' c.is_same_leaf.ensures.valid c.requires.valid c.number-number.result (c.is_same_leaf.ensures.same.0 w.if-not-is_same_leaf.false) in
          subst (λ (ns : List ℕ). AreKeptBut (granules t) (granules t') (map number_of (take (i + 1) ps)) ns) (sym (ap (λ v. v.items) w.numbers-is))
          (kept_one (granules t) (granules t') ps i c.part-item.result c.loop-part-test.true c.part-item.is before c.loop-part.invariant (subst (IsKept (granules t) (granules t')) c.number-number.ensures same))
    ]
