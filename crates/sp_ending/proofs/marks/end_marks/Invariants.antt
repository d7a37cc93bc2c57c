use Rattle.std.proofs.Common.{◌≡◌, ◌≤◌, ℕ, List, length, take, filter}
use Rattle.std.specs.VecDeque.{deque_capacity}
use Rattle.sp_node.specs.declared.node.Entry.{Entry}
use Rattle.sp_node.specs.Change.{table_with}
use Rattle.sp_node.specs.Marks.{is_marked}
use Rattle.sp_node.specs.Table.{Table, entries_of}
use Rattle.sp_ending.specs.declared.marks.Ending.{Ending}
use Rattle.sp_ending.specs.Ends.{ended, AreClean}
use Rattle.sp_ending.specs.Tail.{IsTail}
use Rattle.sp_ending.proofs.marks.end_marks.Given as goal

-- what the turns so far leave
pub record Ended (ending : Ending) (txn from : ℕ) (t : Table) (dead : List ℕ) (t' : Table) (dead' : List ℕ) : Type 0 where
  pub rest : table_with (ended ending txn) t' ≡ table_with (ended ending txn) t
  pub clean : AreClean ending txn (entries_of t')
  pub tail : (before : List Entry) → IsTail dead from before (entries_of t) → IsTail dead' from before (entries_of t')
  pub front : take from dead' ≡ take from dead

pub record Roomy (t : Table) (capacity : ℕ) : Type 0 where
  pub room : length (entries_of t) ≤ capacity

abbrev pub invariant-marked : goal.invariant-marked
invariant-marked l = Ended l.ending l.txn l.from l.initial.tree.table l.initial.dead.items l.tree.table l.dead.items × Roomy l.tree.table (deque_capacity l.dead)

abbrev pub decreases-marked : goal.decreases-marked
decreases-marked l = length (filter (is_marked l.txn) (entries_of l.tree.table))
