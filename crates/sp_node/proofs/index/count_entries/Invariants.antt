use Rattle.std.proofs.Common.{◌≡◌, drop}
use Rattle.sp_node.specs.Plan.{entry_count}
use Rattle.sp_node.proofs.index.count_entries.Given as goal

abbrev pub invariant-back : goal.invariant-back
invariant-back l = l.count ≡ entry_count (drop l.i l.parts)
