use Rattle.std.proofs.Common.{◌≡◌, ◌++◌, drop}
use Rattle.sp_locks.specs.Rows.{holds_in}
use Rattle.sp_waits.specs.Edges.{stopping}
use Rattle.sp_waits.proofs.graph.blockers_on.Given as goal

abbrev pub invariant-loop-row : goal.invariant-loop-row
invariant-loop-row l = l.found ++ stopping l.holding l.session l.mode (drop l.row-index l.rows) ≡ stopping (holds_in l.session l.rows) l.session l.mode l.rows
