use Rattle.std.proofs.Common.{◌≡◌, take}
use Rattle.std.specs.Prelude.{flat_map}
use Rattle.std.specs.Option.{option_and_then, option_to_list}
use Rattle.sp_node.specs.Index.{entry_of}
use Rattle.sp_txn.specs.Changes.{change_of}
use Rattle.sp_txn.proofs.commit_changes.changes_at.Given as goal

abbrev pub invariant-loop-number : goal.invariant-loop-number
invariant-loop-number l = l.found.items ≡ flat_map (λ n. option_to_list (option_and_then (change_of l.txn) (entry_of l.tree.table.nodes n))) (take l.number-index l.numbers)
