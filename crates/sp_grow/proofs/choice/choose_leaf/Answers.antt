use Rattle.std.proofs.Common.{◌<◌, ◌+◌, List, ◌∙◌, ap, sym, subst, Some, map, take, drop, length, get_or}
use Rattle.sp_rect.specs.Plane.{whole}
use Rattle.sp_node.specs.declared.node.Child.{Child}
use Rattle.sp_grow.specs.Chosen.{IsChosen}
use Rattle.sp_grow.proofs.Descent.{Leads, leads_start, turn, Turn}
use Rattle.sp_grow.proofs.choice.choose_leaf.Goals as goal

pub down-init : goal.down-init
down-init c = subst (Leads c.args.tree.now.table c.args.rect.now) (sym c.root-number.ensures.value) (leads_start _ _ c.root-number.ensures.valid)

pub down-smaller : goal.down-smaller
down-smaller c =
    let e = c.as_slice-children.ensures in
    let within = subst (λ (cs : List Child). c.choose_child.result < length cs) e c.choose_child.ensures.within in
    let chosen = subst (λ (cs : List Child). IsChosen (take c.choose_child.result (map (λ d. d.rect) cs)) (get_or (map (λ d. d.rect) cs) c.choose_child.result whole) (drop (c.choose_child.result + 1) (map (λ d. d.rect) cs)) c.args.rect.now) e c.choose_child.ensures.chosen in
    let t = turn c.args.tree.now.table c.args.rect.now c.down.number c.in-Some-Inner.children c.choose_child.result c.index-children-choose_child.result c.down.invariant (sym c.in-Some-Inner.ensures.value ∙ ap Some c.in-Some-Inner.field-0-is) within chosen in
    (subst (λ (cs : List Child). Turn c.args.tree.now.table c.args.rect.now c.down.number (get_or cs c.choose_child.result c.index-children-choose_child.result).node) (sym e) t).less

pub down-preserved : goal.down-preserved
down-preserved c =
    let e = c.as_slice-children.ensures in
    let within = subst (λ (cs : List Child). c.choose_child.result < length cs) e c.choose_child.ensures.within in
    let chosen = subst (λ (cs : List Child). IsChosen (take c.choose_child.result (map (λ d. d.rect) cs)) (get_or (map (λ d. d.rect) cs) c.choose_child.result whole) (drop (c.choose_child.result + 1) (map (λ d. d.rect) cs)) c.args.rect.now) e c.choose_child.ensures.chosen in
    let t = turn c.args.tree.now.table c.args.rect.now c.down.number c.in-Some-Inner.children c.choose_child.result c.index-children-choose_child.result c.down.invariant (sym c.in-Some-Inner.ensures.value ∙ ap Some c.in-Some-Inner.field-0-is) within chosen in
    (subst (λ (cs : List Child). Turn c.args.tree.now.table c.args.rect.now c.down.number (get_or cs c.choose_child.result c.index-children-choose_child.result).node) (sym e) t).leads
