use Rattle.std.proofs.Common.{◌≡◌, ◌≤◌, ◌<◌, ◌-◌, ◌^◌, false}
use Rattle.sp_node.specs.declared.node.Entry.{Entry}
use Rattle.sp_node.specs.Among.{Among}
use Rattle.sp_node.specs.Marks.{is_marked}
use Rattle.sp_node.specs.Table.{entries_of}
use Rattle.sp_node.proofs.tree.Tree.next_marked.Given as goal

-- no entry between the two numbers bears a mark
abbrev pub invariant-loop-number : goal.invariant-loop-number
invariant-loop-number l = record {
  within : l.start ≤ l.at;
  none : (e : Entry) → Among e (entries_of l.self.table) → l.start ≤ e.number → e.number < l.at → is_marked l.txn e ≡ false;
}

abbrev pub decreases-loop-number : goal.decreases-loop-number
decreases-loop-number l = 2 ^ 64 - l.at
