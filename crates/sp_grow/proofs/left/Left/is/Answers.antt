use Rattle.std.proofs.Common.{◌≡◌, ◌∙◌, sym, ap}
use Rattle.sp_node.specs.declared.node.Child.{Child}
use Rattle.sp_grow.specs.declared.left.Left.TheVariants.{One}
use Rattle.sp_grow.proofs.Same.{same_child}
use Rattle.sp_grow.proofs.left.Left.is.Goals as goal

one_is : (a c : Child) → One a ≡ One c → a ≡ c
one_is a c e = cc

pub returns-in-One : goal.returns-in-One
returns-in-One c =
    let s = same_child c.in-One.a c.args.child.now c.eq.result c.eq.ensures in
    (λ t. c.in-One.is ∙ ap One (s.0 t), λ e. s.1 (one_is c.in-One.a c.args.child.now (sym c.in-One.is ∙ e)))
