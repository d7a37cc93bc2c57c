use Rattle.std.proofs.Common.{List, ◌∙◌, arith, subst}
use Rattle.sp_rect.specs.Plane.{Rectangle}
use Rattle.sp_split.specs.Split.{Splits}
use Rattle.sp_grow.proofs.Divides.{parted}
use Rattle.sp_grow.proofs.left.split.Goals as goal

pub put_group-requires : goal.put_group-requires
put_group-requires c =
    let e = c.deref.ensures.value ∙ c.in_ok-rects.ensures in
    let n = c.requires.many in
    let h = c.in_ok-groups.ensures in
    let p = parted c.args.shape c.requires.shape c.args.node.now c.in_ok-groups.groups.first c.in_ok-groups.groups.second n (subst (λ (rs : List Rectangle). Splits rs c.args.shape.min c.in_ok-groups.groups.first c.in_ok-groups.groups.second) e h) in
    let two = c.requires.shape.least in
    omega (arith, p.low)

pub put_group-requires-2 : goal.put_group-requires-2
put_group-requires-2 c =
    let e = c.deref.ensures.value ∙ c.in_ok-rects.ensures in
    let n = c.requires.many in
    let h = c.in_ok-groups.ensures in
    let p = parted c.args.shape c.requires.shape c.args.node.now c.in_ok-groups.groups.first c.in_ok-groups.groups.second n (subst (λ (rs : List Rectangle). Splits rs c.args.shape.min c.in_ok-groups.groups.first c.in_ok-groups.groups.second) e h) in
    let two = c.requires.shape.least in
    omega (arith, p.low')
