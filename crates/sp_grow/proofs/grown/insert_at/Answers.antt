use Rattle.std.proofs.Common.{◌≡◌, ℕ, subst, arith}
use Rattle.std.proofs.lemmas.Result.{IfOk-weaker}
use Rattle.sp_node.specs.declared.plan.Plan.{Plan}
use Rattle.sp_grow.specs.Overlay.{Overlay, table_of}
use Rattle.sp_grow.specs.Below.{Aims, IsGrownAt, IsInsertion, IsRaised}
use Rattle.sp_grow.specs.declared.member.Member.{Member}
use Rattle.sp_grow.specs.declared.left.Step.{Step}
use Rattle.sp_grow.specs.Reached.{IsPart, Reached}
use Rattle.sp_grow.proofs.Inserted.{reached_at}
use Rattle.sp_grow.proofs.grown.insert_at.Goals as goal

at_root : (o : Overlay) (item : Member) (steps root : ℕ) (step : Step) → root ≡ o.plan.root → ((a : Aims (table_of o) item steps root) → IsGrownAt (table_of o) a.k a.x a.level root step.left step.draft) → (a : Aims (table_of o) item steps o.plan.root) → IsGrownAt (table_of o) a.k a.x a.level o.plan.root step.left step.draft
at_root o item steps root step same h = subst (λ (n : ℕ). (a : Aims (table_of o) item steps n) → IsGrownAt (table_of o) a.k a.x a.level n step.left step.draft) same h

pub raise-requires : goal.raise-requires
raise-requires c =
    let g = at_root c.args.base.now c.args.member.now c.args.steps c.root.result c.in_ok-step.step c.root.ensures c.in_ok-step.ensures c.requires in
    let few = g.few_new in
    let room = c.requires.spot.room in
    omega (arith, few, room)

pub returns-clause-step : goal.returns-clause-step
returns-clause-step c =
    IfOk-weaker c.raise.result (IsRaised c.in_ok-step.step) (λ (plan : Plan). (a : Aims (table_of c.args.base.now) c.args.member.now c.args.steps c.args.base.now.plan.root) → IsInsertion (table_of c.args.base.now) a.k a.x a.level plan)
    (λ plan r a. record { step = c.in_ok-step.step; grown = at_root c.args.base.now c.args.member.now c.args.steps c.root.result c.in_ok-step.step c.root.ensures c.in_ok-step.ensures a; raised = r }) c.raise.ensures

pub returns-clause-reached : goal.returns-clause-reached
returns-clause-reached c =
    IfOk-weaker c.raise.result (IsRaised c.in_ok-step.step) (λ (plan : Plan). (a : Aims (table_of c.args.base.now) c.args.member.now c.args.steps c.args.base.now.plan.root) → IsPart c.args.base.now.before.shape a.k a.x → Reached (table_of c.args.base.now) a.k a.x a.level plan)
    (λ plan r a p. reached_at (table_of c.args.base.now) c.args.member.now c.args.steps a p plan (record { step = c.in_ok-step.step; grown = at_root c.args.base.now c.args.member.now c.args.steps c.root.result c.in_ok-step.step c.root.ensures c.in_ok-step.ensures a; raised = r })) c.raise.ensures
