use Rattle.std.proofs.Common.{◌≡◌, Option, Some, None, ap, sym, ◌∙◌}
use Rattle.sp_node.specs.declared.plan.Part.{Part}
use Rattle.sp_node.specs.Look.{look}
use Rattle.sp_node.specs.Plan.{content}
use Rattle.sp_needs.specs.Areas.{first_part}
use Rattle.sp_needs.proofs.Parts.{look_after, left_under}
use Rattle.sp_needs.proofs.area.node_after.Goals as goal

pub returns-in-Some-Now : goal.returns-in-Some-Now
returns-in-Some-Now c =
    let before = look c.args.tree.now.table.nodes c.args.number in
    let part : Some c.in-Some-Now.field-0.now ≡ first_part c.args.number c.args.plan.now.parts = c.in-Some-Now.ensures ∙ ap (first_part c.args.number) c.as_slice.ensures in
    sym (ap content c.in-Some-Now.field-0-is) ∙ ap (λ (o : Option Part). left_under o before) part ∙ sym (look_after c.args.tree.now.table.nodes c.args.plan.now.parts c.args.number)

pub returns-in-Some-Gone : goal.returns-in-Some-Gone
returns-in-Some-Gone c =
    let before = look c.args.tree.now.table.nodes c.args.number in
    let part : Some c.in-Some-Gone.field-0.now ≡ first_part c.args.number c.args.plan.now.parts = c.in-Some-Gone.ensures ∙ ap (first_part c.args.number) c.as_slice.ensures in
    sym (ap content c.in-Some-Gone.field-0-is) ∙ ap (λ (o : Option Part). left_under o before) part ∙ sym (look_after c.args.tree.now.table.nodes c.args.plan.now.parts c.args.number)

pub returns-in-None : goal.returns-in-None
returns-in-None c =
    let before = look c.args.tree.now.table.nodes c.args.number in
    let part : None ≡ first_part c.args.number c.args.plan.now.parts = c.in-None.ensures ∙ ap (first_part c.args.number) c.as_slice.ensures in
    c.node.ensures.value ∙ ap (λ (o : Option Part). left_under o before) part ∙ sym (look_after c.args.tree.now.table.nodes c.args.plan.now.parts c.args.number)
