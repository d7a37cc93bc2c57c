use Rattle.std.proofs.Common.{◌≡◌, ℕ}
use Rattle.std.specs.Prelude.{nat_eq, IsSome}
use Rattle.std.specs.HashMap.{get}
use Rattle.sp_node.specs.Known.{is_known}
use Rattle.sp_node.proofs.index.forget_ids.Given as goal

abbrev pub invariant-loop-part : goal.invariant-loop-part
invariant-loop-part l = (i n : ℕ) → IsSome (get nat_eq l.leaves n) → is_known l.ids i n ≡ is_known l.fn.ids i n
