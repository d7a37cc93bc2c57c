use Rattle.std.proofs.Common.{Option, sym, ap, ◌∙◌}
use Rattle.sp_node.specs.declared.plan.Part.{Part}
use Rattle.sp_node.specs.Look.{look}
use Rattle.sp_node.specs.Table.{Table}
use Rattle.sp_node.proofs.Parts.{said, look_named}
use Rattle.sp_node.proofs.overlay.Overlay.find.Goals as goal

pub returns-in-Some : goal.returns-in-Some
returns-in-Some c =
    let nodes = c.self.inside.tree.now.table.nodes in
    c.node.ensures ∙ ap (λ (o : Option Part). said o (look nodes c.args.number)) c.in-Some.ensures ∙ sym (look_named nodes c.self.inside.parts.now c.args.number) ∙ ap (λ (t : Table). look t.nodes c.args.number) c.self.view_is

pub returns-in-None : goal.returns-in-None
returns-in-None c =
    let nodes = c.self.inside.tree.now.table.nodes in
    c.node-in-None.ensures.value ∙ ap (λ (o : Option Part). said o (look nodes c.args.number)) c.in-None.ensures ∙ sym (look_named nodes c.self.inside.parts.now c.args.number) ∙ ap (λ (t : Table). look t.nodes c.args.number) c.self.view_is
