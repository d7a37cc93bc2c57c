use Rattle.std.proofs.Common.{◌≡◌, ℕ, List, true, false, subst}
use Rattle.sp_node.specs.Among.{Among}
use Rattle.sp_node.specs.Plan.{planned}
use Rattle.sp_node.specs.Table.{Table}
use Rattle.sp_granule.specs.Granules.{granules}
use Rattle.sp_ops.specs.Changes.{IsKept}
use Rattle.sp_ops.proofs.Alike.{keeps_all}
use Rattle.sp_ops.proofs.areas.keeps_granules.Goals as goal

pub returns : goal.returns
returns c =
    let t = c.args.tree.now.table in
    let t' = planned t c.args.plan.now in
    let keeps = c.in_ok-keeps.keeps in
    let all =
    subst (λ (ns : List ℕ). keeps ≡ true → (n : ℕ) → Among n ns → IsKept (granules t) (granules t') n) c.as_slice.ensures.value
    (subst (λ (u : Table). keeps ≡ true → (n : ℕ) → Among n c.as_slice.result.now → IsKept (granules t) (granules u) n) c.planned-after.ensures
    (subst (λ (u : Table). keeps ≡ true → (n : ℕ) → Among n c.as_slice.result.now → IsKept (granules u) (granules c.planned-after.result) n) c.of-before.ensures c.in_ok-keeps.ensures.all)) in
    let one =
    subst (λ (u : Table). keeps ≡ false → (n : ℕ) × (IsKept (granules t) (granules u) n → ⊥)) c.planned-after.ensures
    (subst (λ (u : Table). keeps ≡ false → (n : ℕ) × (IsKept (granules u) (granules c.planned-after.result) n → ⊥)) c.of-before.ensures c.in_ok-keeps.ensures.one) in
    keeps_all t t' c.in_ok-numbers.ensures.valid c.requires.valid c.in_ok-numbers.numbers.items c.in_ok-numbers.ensures.differ keeps all one
