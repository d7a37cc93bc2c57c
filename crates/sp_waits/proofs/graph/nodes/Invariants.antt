use Rattle.std.proofs.Common.{◌≡◌, ◌++◌, drop, map}
use Rattle.sp_waits.specs.Search.{waits_for}
use Rattle.sp_waits.proofs.Graphs.{node}
use Rattle.sp_waits.proofs.graph.nodes.Given as goal

abbrev pub invariant-loop-session : goal.invariant-loop-session
invariant-loop-session l =
    l.made.items ++ map (node (waits_for l.table l.request.session l.request.name l.request.mode)) (drop l.session-index l.sessions) ≡ map (node (waits_for l.table l.request.session l.request.name l.request.mode)) l.sessions
