use Rattle.std.proofs.Common.{◌++◌, List, drop}
use Rattle.sp_waits.specs.declared.edge.Edge.{Edge}
use Rattle.sp_waits.specs.Edges.{once_waiting}
use Rattle.sp_waits.specs.Search.{waits_for}
use Rattle.sp_waits.specs.Ways.{IsWay, AreEdges}
use Rattle.sp_waits.proofs.cycles.edges_along.Given as goal

abbrev pub invariant-loop-to : goal.invariant-loop-to
invariant-loop-to l = record {
  way : IsWay (waits_for l.table l.request.session l.request.name l.request.mode) l.from (drop l.to-index l.path);
  told : (es : List Edge) → AreEdges (once_waiting l.request.session l.request.name l.request.mode l.table) l.from (drop l.to-index l.path) es
      → AreEdges (once_waiting l.request.session l.request.name l.request.mode l.table) l.request.session l.path (l.told ++ es);
}
