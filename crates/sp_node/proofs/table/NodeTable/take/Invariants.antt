use Rattle.std.proofs.Common.{◌≡◌, ◌≤◌, length}
use Rattle.sp_node.specs.Plan.{with_parts}
use Rattle.sp_node.proofs.table.NodeTable.take.Given as goal

abbrev pub invariant-loop-part : goal.invariant-loop-part
invariant-loop-part l = record {
  room : length l.parts.items ≤ l.self.room;
  nodes : with_parts l.self.nodes l.parts.items ≡ with_parts l.fn.self.nodes l.fn.parts;
}

abbrev pub decreases-loop-part : goal.decreases-loop-part
decreases-loop-part l = length l.parts.items
