use Rattle.std.proofs.Common.{◌<◌, ℕ, sym, subst}
use Rattle.sp_node.specs.declared.node.Entry.{Entry}
use Rattle.sp_node.specs.Table.{depth}
use Rattle.sp_grow.specs.Overlay.{Overlay}
use Rattle.sp_condense.specs.Staging.{at_of}
use Rattle.sp_condense.proofs.Collapses.{Falls, falls_start, falls, lower, ends}
use Rattle.sp_condense.proofs.collapse.collapse.Goals as goal

pub down-init : goal.down-init
down-init c = λ e level s. falls_start e c.args.tree.now level s

pub down-preserved : goal.down-preserved
down-preserved c = λ e level s. subst (Falls e c.args.tree.now level) (sym c.in_ok-descend.ensures) (falls e c.args.tree.now level c.down.tree (c.down.invariant e level s) c.in-Some.child c.in-Some.ensures)

pub down-smaller : goal.down-smaller
down-smaller c =
    let e : Entry = c.requires.0 in
    let level : ℕ = c.requires.1 in
    let f = c.down.invariant c.requires.0 c.requires.1 c.requires.2 in
    let g = falls c.requires.0 c.args.tree.now c.requires.1 c.down.tree f c.in-Some.child c.in-Some.ensures in
    subst (λ (o : Overlay). depth (at_of o) o.plan.next o.plan.root < depth (at_of c.down.tree) c.down.tree.plan.next c.down.tree.plan.root) (sym c.in_ok-descend.ensures) (lower e c.args.tree.now level c.down.tree f c.in-Some.child c.in-Some.ensures g)

pub returns : goal.returns
returns c = λ e level s. ends e c.args.tree.now level c.down.tree (c.down.invariant e level s) c.in_default.ensures
