use Rattle.std.proofs.Common.{List, subst, sym, ap, ◌∙◌, arith, ℕ, ◌<◌, ◌≤◌, length}
use Rattle.sp_node.specs.declared.plan.Part.{Part}
use Rattle.sp_grow.specs.Overlay.{number_in, IsAt}
use Rattle.sp_grow.proofs.Renewed.{renewed_at, renewed_between}
use Rattle.sp_grow.proofs.planned.renew.Goals as goal

pub returns-then-is_at : goal.returns-then-is_at
returns-then-is_at c =
    let items : List Part = c.args.parts.now.items in
    let at : ℕ = c.place_of-at.result in
    let is = subst (λ (n : ℕ). IsAt items at n) c.number-number.ensures (subst (λ (ps : List Part). IsAt ps at c.number-number.result) c.as_slice-2.ensures.value c.if-is_at.ensures) in
    let below = subst (λ (ps : List Part). (j : ℕ) → j < at → number_in ps j < c.number-number.result) c.as_slice.ensures.value c.place_of-at.ensures.below in
    sym (renewed_at items c.args.part at is (λ j lt. omega (arith, below j lt, c.number-number.ensures)))

pub returns-in_ok-insert : goal.returns-in_ok-insert
returns-in_ok-insert c =
    let items : List Part = c.args.parts.now.items in
    let at : ℕ = c.place_of-at.result in
    let not_at = subst (λ (n : ℕ). ¬ (IsAt items at n)) c.number-number.ensures (subst (λ (ps : List Part). ¬ (IsAt ps at c.number-number.result)) c.as_slice-2.ensures.value c.if-is_at.ensures) in
    let below = subst (λ (ps : List Part). (j : ℕ) → j < at → number_in ps j < c.number-number.result) c.as_slice.ensures.value c.place_of-at.ensures.below in
    let above = subst (λ (ps : List Part). at < length ps → c.number-number.result ≤ number_in ps at) c.as_slice.ensures.value c.place_of-at.ensures.above in
    let within : at ≤ length items = omega (arith, c.place_of-at.ensures.within, ap (λ (ps : List Part). length ps) c.as_slice.ensures.value) in
    c.in_ok-insert.ensures.items ∙ sym (renewed_between items c.args.part at within (λ j lt. omega (arith, below j lt, c.number-number.ensures)) (λ lt. omega (arith, above lt, c.number-number.ensures)) not_at)
