use Rattle.std.proofs.Common.{Some, None, sym, ap, ◌∙◌, List}
use Rattle.sp_node.specs.declared.plan.Part.{Part}
use Rattle.sp_node.specs.Look.{look}
use Rattle.sp_node.specs.Plan.{content}
use Rattle.sp_grow.specs.Overlay.{Overlay, part_of}
use Rattle.sp_grow.proofs.Renewed.{node_over}
use Rattle.sp_grow.proofs.planned.Planned.node.Goals as goal

pub returns-in-Some-Now : goal.returns-in-Some-Now
returns-in-Some-Now c =
    let same = c.as_slice.ensures.value ∙ ap (λ (v : Overlay). v.plan.parts) c.self.view_is in
    let over = node_over c.args.self.now.before.nodes c.args.self.now.plan.parts c.args.number (Some c.in-Some-Now.field-0.now) (c.in-Some-Now.ensures ∙ ap (λ (ps : List Part). part_of ps c.args.number) same) in
    ap Some c.in-Some-Now.node-is ∙ sym (over ∙ ap content c.in-Some-Now.field-0-is)

pub returns-in-Some-Gone : goal.returns-in-Some-Gone
returns-in-Some-Gone c =
    let same = c.as_slice.ensures.value ∙ ap (λ (v : Overlay). v.plan.parts) c.self.view_is in
    let over = node_over c.args.self.now.before.nodes c.args.self.now.plan.parts c.args.number (Some c.in-Some-Gone.field-0.now) (c.in-Some-Gone.ensures ∙ ap (λ (ps : List Part). part_of ps c.args.number) same) in
    sym (over ∙ ap content c.in-Some-Gone.field-0-is)

pub returns-in-None : goal.returns-in-None
returns-in-None c =
    let same = c.as_slice.ensures.value ∙ ap (λ (v : Overlay). v.plan.parts) c.self.view_is in
    c.node.ensures.value ∙ ap (λ (v : Overlay). look v.before.nodes c.args.number) c.self.view_is
    ∙ sym (node_over c.args.self.now.before.nodes c.args.self.now.plan.parts c.args.number None (c.in-None.ensures ∙ ap (λ (ps : List Part). part_of ps c.args.number) same))
