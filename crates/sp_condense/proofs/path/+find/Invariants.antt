use Rattle.std.proofs.Common.{◌≡◌, ◌<◌, ◌-◌, ℕ, true, get_or}
use Rattle.sp_rect.specs.Plane.{encloses}
use Rattle.sp_node.specs.declared.node.Child.{Child}
use Rattle.sp_node.specs.Look.{look}
use Rattle.sp_condense.specs.Way.{IsNotBelow}
use Rattle.sp_condense.proofs.path.+find.Given as goal

abbrev pub decreases-find : goal.decreases-find
decreases-find l = l.steps

abbrev pub invariant-children : goal.invariant-children
invariant-children l = (j : ℕ) (d : Child) → j < l.i → encloses (get_or l.children j d).rect l.rect ≡ true → IsNotBelow (look l.tree.table.nodes) l.rect (l.steps - 1) (get_or l.children j d).node l.leaf
