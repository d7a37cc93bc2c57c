use Rattle.std.proofs.Common.{◌≡◌, take, map}
use Rattle.sp_ops.specs.Seen.{entries_at}
use Rattle.sp_ops.proofs.distinct.ids_at.Given as goal

abbrev pub invariant-loop-number : goal.invariant-loop-number
invariant-loop-number l = l.ids.items ≡ map (λ e. e.id) (entries_at l.tree.table.nodes (take l.number-index l.numbers))
