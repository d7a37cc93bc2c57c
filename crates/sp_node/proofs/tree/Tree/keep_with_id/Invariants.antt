use Rattle.std.proofs.Common.{◌≡◌, take}
use Rattle.std.specs.List.{filter}
use Rattle.sp_node.specs.Index.{entry_of, has_id}
use Rattle.sp_node.proofs.tree.Tree.keep_with_id.Given as goal

abbrev pub invariant-loop-number : goal.invariant-loop-number
invariant-loop-number l = l.kept.items ≡ filter (λ n. has_id l.id (entry_of l.self.table.nodes n)) (take l.number-index l.numbers)
