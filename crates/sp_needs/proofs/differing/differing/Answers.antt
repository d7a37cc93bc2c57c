use Rattle.std.proofs.Common.{ℕ, List, [], ◌∷◌, ◌++◌, ◌∙◌, ap, sym}
use Rattle.sp_needs.proofs.Parts.{one_root, two_roots}
use Rattle.sp_needs.proofs.differing.differing.Goals as goal
use Rattle.sp_needs.proofs.differing.differing.Goals.{then-root-plan+in_ok-push+in_ok-push-2, else-root-plan}

pub returns-clause-differ : goal.returns-clause-differ
returns-clause-differ c =
    let t = c.args.tree.now.table in
    let plan = c.args.plan.now in
    let reshaped = c.in_ok-numbers.numbers.items in
    elim c.if-root-plan.branch [
      | then-root-plan+in_ok-push+in_ok-push-2 w ↦ two_roots t c.root-root.ensures.valid plan c.requires reshaped c.in_ok-numbers.ensures c.if-root-plan.numbers.items (ap (λ v. v.items) w.numbers-is ∙ w.in_ok-push-2.ensures.items ∙ ap (λ (xs : List ℕ). xs ++ plan.root ∷ []) (w.in_ok-push.ensures.items ∙ ap (λ (k : ℕ). reshaped ++ k ∷ []) c.root-root.ensures.value))
      | else-root-plan w ↦ one_root t c.root-root.ensures.valid plan c.requires reshaped c.in_ok-numbers.ensures (sym w.if-root-plan.false ∙ c.root-root.ensures.value) c.if-root-plan.numbers.items (ap (λ v. v.items) w.numbers-is)
    ]
