use Rattle.std.proofs.Common.{◌≡◌, ◌+◌, ◌≤◌, drop, length}
use Rattle.sp_node.specs.Moving.{unmoved}
use Rattle.sp_node.proofs.index.unmoved.Given as goal

abbrev pub invariant-loop-i : goal.invariant-loop-i
invariant-loop-i l = record {
  count : unmoved l.before l.after ≡ l.i + unmoved (drop l.i l.before) (drop l.i l.after);
  within : l.i ≤ length l.after;
}
