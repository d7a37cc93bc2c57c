use Rattle.std.proofs.Common.{◌≡◌, ◌+◌, ◌∷◌, ℕ, sym, subst, arith}
use Rattle.sp_node.specs.declared.plan.Plan.{Plan}
use Rattle.sp_grow.specs.Overlay.{Overlay, table_of}
use Rattle.sp_grow.specs.Below.{Aims}
use Rattle.sp_grow.specs.Reached.{IsPart, Reached}
use Rattle.sp_condense.specs.Staging.{Counts, Goes}
use Rattle.sp_condense.proofs.Stages.{few_steps, aims_first, turn_goes}
use Rattle.sp_condense.proofs.orphans.insert_one.Goals as goal

pub insert-requires : goal.insert-requires
insert-requires c =
    let r = c.requires in
    let few = few_steps r.0 c.args.tree.now c.args.orphan.now r.1 c.args.raised r.2 in
    let steps : c.args.orphan.now.depth + c.args.raised ≡ c.saturating_add-steps.result = omega (arith, c.saturating_add-steps.ensures, few) in
    subst (λ (n : ℕ). Aims (table_of c.args.tree.now) c.args.orphan.now.member n c.args.tree.now.plan.root) steps (aims_first r.0 c.args.tree.now c.args.orphan.now r.1 c.args.raised r.2)

pub counted-risen-requires : goal.counted-risen-requires
counted-risen-requires c = let r = c.requires in let few = few_steps r.0 c.args.tree.now c.args.orphan.now r.1 c.args.raised r.2 in omega (arith, few)

pub returns : goal.returns
returns c = λ e fs r.
    let few = few_steps e c.args.tree.now c.args.orphan.now fs c.args.raised r in
    let steps : c.saturating_add-steps.result ≡ c.args.orphan.now.depth + c.args.raised = omega (arith, c.saturating_add-steps.ensures, few) in
    let plan : Plan = c.in_ok-plan.plan in
    let reaches = subst (λ (n : ℕ). (a : Aims (table_of c.args.tree.now) c.args.orphan.now.member n c.args.tree.now.plan.root) → IsPart c.args.tree.now.before.shape a.k a.x → Reached (table_of c.args.tree.now) a.k a.x a.level c.in_ok-plan.plan) steps c.in_ok-plan.ensures in
    let counts = subst (λ (n : ℕ). Counts n c.in_ok-plan.plan.root c.args.raised c.counted-risen.result) c.root.ensures c.counted-risen.ensures in
    subst (λ (o : Overlay). Goes e c.args.tree.now o (c.args.orphan.now ∷ fs) fs c.args.raised c.counted-risen.result r) (sym c.in_ok-take.ensures) (turn_goes e c.args.tree.now c.args.orphan.now fs c.args.raised r plan c.counted-risen.result reaches counts)
