use Rattle.std.proofs.Common.{◌≡◌, ◌<◌, ℕ, ℤ, List, map, length, get_or, ap, ◌∙◌, sym, subst, arith}
use Rattle.std.proofs.lemmas.List.{get_or-map, length-map}
use Rattle.sp_rect.specs.Plane.{Rectangle, whole}
use Rattle.sp_node.specs.declared.node.Child.{Child}
use Rattle.sp_grow.proofs.Better.{Best, Costs, best_start, best_kept, best_new, best_all, yes, no}
use Rattle.sp_grow.proofs.choice.choose_child.Goals as goal
use Rattle.sp_grow.proofs.choice.choose_child.Goals.{then-is_less, else-is_less}

abbrev rect_of : Child → Rectangle
rect_of c = c.rect

size : (cs : List Child) → length (map (λ c. c.rect) cs) ≡ length cs
size cs = length-map cs (λ c. c.rect)

at : (cs : List Child) (i : ℕ) (c : Child) → i < length cs → rect_of (get_or cs i c) ≡ get_or (map (λ d. d.rect) cs) i whole
at cs i c lt = sym (get_or-map (λ d. d.rect) cs i c whole lt)

costs_at : (cs : List Child) (q : Rectangle) (i : ℕ) (c : Child) (g x : ℤ) → i < length cs → c ≡ get_or cs i c → Costs q (rect_of c) g x → Costs q (get_or (map (λ d. d.rect) cs) i whole) g x
costs_at cs q i c g x lt e h = subst (λ (r : Rectangle). Costs q r g x) (ap rect_of e ∙ at cs i c lt) h

pub loop-i-init : goal.loop-i-init
loop-i-init c =
    let cs = c.args.children.now in
    let q = c.args.rect.now in
    let cost = c.cost_of-least in
    best_start q (map (λ d. d.rect) cs) (omega (arith, size cs)) cost.result.growth cost.result.area (costs_at cs q 0 c.index-children-0.result cost.result.growth cost.result.area c.requires c.index-children-0.is (record { growth = cost.ensures.growth; area = cost.ensures.area }))

pub loop-i-preserved : goal.loop-i-preserved
loop-i-preserved c =
    let q = c.args.rect.now in
    let cs = c.args.children.now in
    let rects = map rect_of cs in
    let len = size cs in
    let cost = c.cost_of-cost in
    let least = c.loop-i.least in
    let costs = costs_at cs q c.loop-i.i c.index-children-i.result cost.result.growth cost.result.area c.loop-i-test.true c.index-children-i.is (record { growth = cost.ensures.growth; area = cost.ensures.area }) in
    elim c.if-is_less.branch [
      | then-is_less w ↦
          let less = yes _ _ c.is_less.result w.if-is_less.true c.is_less.ensures in
          rw (w.best-is, w.least-is) (best_new q rects c.loop-i.i c.loop-i.best least.growth least.area c.loop-i.invariant cost.result.growth cost.result.area costs (omega (arith, len, c.loop-i-test.true)) less)
      | else-is_less w ↦
          let most = no _ _ c.is_less.result w.if-is_less.false c.is_less.ensures in
          rw (w.best-is, w.least-is) (best_kept q rects c.loop-i.i c.loop-i.best least.growth least.area c.loop-i.invariant cost.result.growth cost.result.area costs most)
    ]

pub returns : goal.returns
returns c =
    let rects = map rect_of c.args.children.now in
    let len = size c.args.children.now in
    let least = c.loop-i.least in
    let all : c.loop-i.i ≡ length rects = omega (arith, len, c.loop-i-test.false, c.loop-i.auto.i-end) in
    record {
      within = omega (arith, len, c.loop-i.invariant.within);
      chosen = best_all c.args.rect.now rects c.loop-i.best least.growth least.area (subst (λ (n : ℕ). Best c.args.rect.now rects n c.loop-i.best least.growth least.area) all c.loop-i.invariant);
    }
