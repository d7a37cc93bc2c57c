use Rattle.std.proofs.Common.{◌≡◌, take}
use Rattle.std.specs.List.{filter}
use Rattle.sp_node.specs.Index.{entry_of, passes}
use Rattle.sp_node.specs.Marks.{is_marked}
use Rattle.sp_node.proofs.tree.Tree.keep_marked.Given as goal

abbrev pub invariant-loop-number : goal.invariant-loop-number
invariant-loop-number l = l.kept.items ≡ filter (λ n. passes (is_marked l.txn) (entry_of l.self.table.nodes n)) (take l.number-index l.numbers)
