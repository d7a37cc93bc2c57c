use Rattle.std.proofs.Common.{◌≡◌, ◌<◌, ◌+◌, ◌-◌, ℕ, Some, length, take, drop, List, map, get_or, sym, ap, ◌∙◌, subst, arith}
use Rattle.std.proofs.lemmas.Result.{IfOk-weaker}
use Rattle.sp_rect.specs.Plane.{Rectangle, whole}
use Rattle.sp_node.specs.declared.node.Child.{Child}
use Rattle.sp_node.specs.declared.node.Node.TheVariants.{Inner}
use Rattle.sp_node.specs.declared.node.Shape.{Shape}
use Rattle.sp_node.specs.Look.{look}
use Rattle.sp_node.specs.Table.{Table}
use Rattle.sp_grow.specs.Overlay.{table_of}
use Rattle.sp_grow.specs.Members.{node_with}
use Rattle.sp_grow.specs.declared.left.Step.{Step}
use Rattle.sp_grow.specs.Chosen.{IsChosen}
use Rattle.sp_grow.specs.Below.{Aims, IsStepped, IsGrownAt, IsSettled, no_child, no_draft}
use Rattle.sp_grow.proofs.Turns.{has_child, grown_home, Down, down, grown_inner}
use Rattle.sp_grow.proofs.grown.+grow_below.Goals as goal

pub choose_child-at-requires : goal.choose_child-at-requires
choose_child-at-requires t c =
    let is : look (table_of c.args.base.now).nodes c.args.number ≡ Some (Inner c.in-Some-children_below.children.now) = sym c.in-Some.ensures ∙ ap Some c.in-Some-children_below.ensures.0 in
    let some = has_child (table_of c.args.base.now) c.args.number c.in-Some-children_below.children.now is c.requires.level c.requires.spot in
    omega (arith, some, ap (λ (cs : List Child). length cs) c.as_slice.ensures)

pub grow_below-requires : goal.grow_below-requires
grow_below-requires t c =
    let table : Table = table_of c.args.base.now in
    let cs : List Child = c.in-Some-children_below.children.now in
    let at : ℕ = c.choose_child-at.result in
    let is : look (table_of c.args.base.now).nodes c.args.number ≡ Some (Inner c.in-Some-children_below.children.now) = sym c.in-Some.ensures ∙ ap Some c.in-Some-children_below.ensures.0 in
    let within : c.choose_child-at.result < length c.in-Some-children_below.children.now = omega (arith, c.choose_child-at.ensures.within, ap (λ (cs : List Child). length cs) c.as_slice.ensures) in
    let goes = c.in-Some-children_below.ensures.1 in
    let steps : c.args.steps - 1 ≡ c.saturating_sub.result = sym c.saturating_sub.ensures in
    let d = down table c.args.number cs is at within c.args.member.now c.args.steps goes c.index-as_slice-at.result c.requires in
    let e = subst (λ (ds : List Child). Down table c.args.number cs is at within c.args.member.now c.args.steps goes (get_or ds at c.index-as_slice-at.result).node) (sym c.as_slice-in-Some-children_below.ensures) d in
    (omega (arith, e.less, c.decreases), subst (λ (n : ℕ). Aims table c.args.member.now n (get_or c.as_slice-in-Some-children_below.result.now at c.index-as_slice-at.result).node) steps e.aims)

pub step_up-requires-clause-numbers : goal.step_up-requires-clause-numbers
step_up-requires-clause-numbers t c =
    let table : Table = table_of c.args.base.now in
    let cs : List Child = c.in-Some-children_below.children.now in
    let at : ℕ = c.choose_child-at.result in
    let below : Step = c.in_ok-below-in-Some-children_below.below in
    let is : look (table_of c.args.base.now).nodes c.args.number ≡ Some (Inner c.in-Some-children_below.children.now) = sym c.in-Some.ensures ∙ ap Some c.in-Some-children_below.ensures.0 in
    let within : c.choose_child-at.result < length c.in-Some-children_below.children.now = omega (arith, c.choose_child-at.ensures.within, ap (λ (cs : List Child). length cs) c.as_slice.ensures) in
    let d : Child = c.index-as_slice-at.result in
    let goes = c.in-Some-children_below.ensures.1 in
    let low = down table c.args.number cs is at within c.args.member.now c.args.steps goes d c.requires in
    let rec = subst (λ (n : ℕ). (a : Aims table c.args.member.now n (get_or cs at d).node) → IsGrownAt table a.k a.x a.level (get_or cs at d).node below.left below.draft) c.saturating_sub.ensures
    (subst (λ (ds : List Child). (a : Aims table c.args.member.now c.saturating_sub.result (get_or ds at d).node) → IsGrownAt table a.k a.x a.level (get_or ds at d).node below.left below.draft) c.as_slice-in-Some-children_below.ensures c.in_ok-below-in-Some-children_below.ensures) in
    let g = rec low.aims in
    let few = g.few_new in
    let room = low.aims.spot.room in
    omega (arith, few, room)

pub returns-in_ok-below-in-Some-children_below : goal.returns-in_ok-below-in-Some-children_below
returns-in_ok-below-in-Some-children_below t c =
    let table : Table = table_of c.args.base.now in
    let cs : List Child = c.in-Some-children_below.children.now in
    let at : ℕ = c.choose_child-at.result in
    let below : Step = c.in_ok-below-in-Some-children_below.below in
    let is : look (table_of c.args.base.now).nodes c.args.number ≡ Some (Inner c.in-Some-children_below.children.now) = sym c.in-Some.ensures ∙ ap Some c.in-Some-children_below.ensures.0 in
    let within : c.choose_child-at.result < length c.in-Some-children_below.children.now = omega (arith, c.choose_child-at.ensures.within, ap (λ (cs : List Child). length cs) c.as_slice.ensures) in
    let d : Child = c.index-as_slice-at.result in
    let goes = c.in-Some-children_below.ensures.1 in
    let rec = subst (λ (n : ℕ). (a : Aims table c.args.member.now n (get_or cs at d).node) → IsGrownAt table a.k a.x a.level (get_or cs at d).node below.left below.draft) c.saturating_sub.ensures
    (subst (λ (ds : List Child). (a : Aims table c.args.member.now c.saturating_sub.result (get_or ds at d).node) → IsGrownAt table a.k a.x a.level (get_or ds at d).node below.left below.draft) c.as_slice-in-Some-children_below.ensures c.in_ok-below-in-Some-children_below.ensures) in
    let chosen = subst (λ (q : Rectangle). IsChosen (take at (map (λ d. d.rect) cs)) (get_or (map (λ d. d.rect) cs) at whole) (drop (at + 1) (map (λ d. d.rect) cs)) q) c.rect.ensures
    (subst (λ (ds : List Child). IsChosen (take at (map (λ d. d.rect) ds)) (get_or (map (λ d. d.rect) ds) at whole) (drop (at + 1) (map (λ d. d.rect) ds)) c.rect.result) c.as_slice.ensures c.choose_child-at.ensures.chosen) in
    IfOk-weaker c.step_up.result (λ (step : Step). IsStepped c.shape.result c.args.number (take at cs) (get_or cs at no_child) (drop (at + 1) cs) below step) (λ (step : Step). (a : Aims table c.args.member.now c.args.steps c.args.number) → IsGrownAt table a.k a.x a.level c.args.number step.left step.draft)
    (λ step s. grown_inner table c.args.number cs is at within c.args.member.now c.args.steps goes d below step chosen rec (subst (λ (h : Shape). IsStepped h c.args.number (take at cs) (get_or cs at no_child) (drop (at + 1) cs) below step) c.shape.ensures s))
    c.step_up.ensures

pub returns-in-None-children_below : goal.returns-in-None-children_below
returns-in-None-children_below t c =
    let table : Table = table_of c.args.base.now in
    IfOk-weaker c.start.result (λ (step : Step). IsSettled table.shape (no_draft table.next) c.args.number (node_with c.in-Some.node.now c.args.member.now) step.left step.draft) (λ (step : Step). (a : Aims table c.args.member.now c.args.steps c.args.number) → IsGrownAt table a.k a.x a.level c.args.number step.left step.draft)
    (λ step s a. grown_home table c.args.member.now c.args.steps c.args.number c.in-Some.node.now (sym c.in-Some.ensures) c.in-None-children_below.ensures a step.left step.draft s) c.start.ensures
