use Rattle.std.proofs.Common.{ℕ, ◌∙◌, ap, sym, subst, Some}
use Rattle.sp_rect.specs.Plane.{point}
use Rattle.sp_granule.specs.Descent.{first_child_at}
use Rattle.sp_granule.proofs.Way.{Leads, leads_start, turn, stays}
use Rattle.sp_granule.proofs.descent.descend.Goals as goal

pub down-init : goal.down-init
down-init c = subst (λ (n : ℕ). Leads c.args.tree.now.table (point c.args.p.x c.args.p.y) n) (sym c.root-number.ensures.value) (leads_start _ _ c.root-number.ensures.valid)

pub returns-in-None : goal.returns-in-None
returns-in-None c =
    let t = c.args.tree.now.table in
    let p = point c.args.p.x c.args.p.y in
    stays t p c.down.number c.in-Some-Inner.children c.down.invariant (sym c.in-Some-Inner.ensures.value ∙ ap Some c.in-Some-Inner.field-0-is) (ap (first_child_at p) (sym c.as_slice.ensures) ∙ sym c.in-None.ensures)

pub down-smaller : goal.down-smaller
down-smaller c =
    let t = c.args.tree.now.table in
    let p = point c.args.p.x c.args.p.y in
    (turn t p c.down.number c.in-Some.child c.in-Some-Inner.children c.down.invariant (sym c.in-Some-Inner.ensures.value ∙ ap Some c.in-Some-Inner.field-0-is) (ap (first_child_at p) (sym c.as_slice.ensures) ∙ sym c.in-Some.ensures)).less

pub down-preserved : goal.down-preserved
down-preserved c =
    let t = c.args.tree.now.table in
    let p = point c.args.p.x c.args.p.y in
    (turn t p c.down.number c.in-Some.child c.in-Some-Inner.children c.down.invariant (sym c.in-Some-Inner.ensures.value ∙ ap Some c.in-Some-Inner.field-0-is) (ap (first_child_at p) (sym c.as_slice.ensures) ∙ sym c.in-Some.ensures)).leads
