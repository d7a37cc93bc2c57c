use Rattle.std.proofs.Common.{drop}
use Rattle.sp_node.specs.declared.node.Entry.{Entry}
use Rattle.sp_condense.specs.Staging.{Ready, Goes}
use Rattle.sp_condense.proofs.orphans.insert_all.Given as goal

abbrev pub invariant-loop-orphan : goal.invariant-loop-orphan
invariant-loop-orphan l = (e : Entry) (r : Ready e l.fn.tree l.orphans 0) → Goes e l.fn.tree l.tree l.orphans (drop l.orphan-index l.orphans) 0 l.raised r
