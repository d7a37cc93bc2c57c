use Rattle.std.proofs.Common.{ℕ, take}
use Rattle.sp_node.specs.Among.{Among}
use Rattle.sp_granule.specs.Granules.{granules}
use Rattle.sp_ops.specs.Changes.{IsKept}
use Rattle.sp_ops.proofs.areas.are_kept.Given as goal

abbrev pub invariant-loop-number : goal.invariant-loop-number
invariant-loop-number l = (n : ℕ) → Among n (take l.number-index l.numbers) → IsKept (granules l.before) (granules l.after) n
