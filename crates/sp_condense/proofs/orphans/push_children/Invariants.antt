use Rattle.std.proofs.Common.{◌≡◌, ◌++◌, take, map}
use Rattle.sp_grow.specs.declared.member.Member.TheVariants.{Child as ChildOf}
use Rattle.sp_condense.proofs.orphans.push_children.Given as goal

abbrev pub invariant-loop-child : goal.invariant-loop-child
invariant-loop-child l = l.orphans.items ≡ l.fn.orphans.items ++ map (λ m. record { depth = l.depth; member = ChildOf m }) (take l.child-index l.children)
