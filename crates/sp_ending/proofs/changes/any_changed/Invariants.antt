use Rattle.std.proofs.Common.{◌≡◌, ◌<◌, ◌≤◌, ◌-◌, ◌^◌, false}
use Rattle.sp_node.specs.declared.node.Entry.{Entry}
use Rattle.sp_node.specs.Among.{Among}
use Rattle.sp_node.specs.Table.{entries_of}
use Rattle.sp_model.specs.Stepped.{is_change}
use Rattle.sp_ending.proofs.changes.any_changed.Given as goal

abbrev pub invariant-marked : goal.invariant-marked
invariant-marked l = ((e : Entry) → Among e (entries_of l.tree.table) → e.number < l.start → is_change l.txn e ≡ false) × (l.start ≤ 2 ^ 63)

abbrev pub decreases-marked : goal.decreases-marked
decreases-marked l = 2 ^ 63 - l.start
