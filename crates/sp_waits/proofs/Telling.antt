-- The cycle that is told, from what the search found.
use Rattle.std.proofs.Common.{◌≡◌, ℕ, ◌+◌, suc, List, None, Some, sym, ap, ◌∙◌, subst, arith}
use Rattle.sp_locks.specs.declared.mode.Mode.{Mode}
use Rattle.sp_locks.specs.declared.row.Name.{Name}
use Rattle.sp_locks.specs.declared.row.Row.{Row}
use Rattle.sp_locks.specs.Rows.{waiting_in}
use Rattle.sp_locks.specs.Soundness.{IsSound}
use Rattle.sp_waits.specs.declared.graph.Node.{Node}
use Rattle.sp_waits.specs.declared.levels.Levels.{Levels}
use Rattle.sp_waits.specs.declared.edge.Edge.{Edge}
use Rattle.sp_waits.specs.Edges.{waits_of, once_waiting, Chain}
use Rattle.sp_waits.specs.Search.{waits_for}
use Rattle.sp_waits.specs.Levels.{edges_of, path_of}
use Rattle.sp_waits.specs.Levelled.{IsSearched}
use Rattle.sp_waits.specs.Ways.{IsWay, AreEdges}
use Rattle.sp_waits.specs.Cycles.{IsLeastCycle}
use Rattle.sp_waits.proofs.Waiting.{waits-are}
use Rattle.sp_waits.proofs.Paths.{near-start, way-from, told-cycle, chain-goes}

-- the same edges by the graph, by the rows without the wait and by those with it
pub same-edges : (rows : List Row) (s : ℕ) (name : Name) (mode : Mode) → IsSound rows → waiting_in s rows ≡ None → waits_of (once_waiting s name mode rows) ≡ waits_for rows s name mode
same-edges rows s name mode sound awake = λ i u. waits-are rows s name mode sound awake u i

pub found-way : (edges : ℕ → List ℕ) (s : ℕ) (graph : List Node) (l : Levels) (path : List ℕ) → IsSearched graph s (Some l) → edges_of graph ≡ edges → path ≡ path_of graph l.reached.items (l.steps + 1) s → IsWay edges s path
found-way edges s graph l path found same is =
    let e : l.steps + 1 ≡ suc l.steps = omega arith in
    let w = way-from graph s l.steps l.reached.items found.0 l.steps s (near-start graph s l.steps l.reached.items found.0 found.1) in
    subst (λ (vs : List ℕ). IsWay edges s vs) (sym (is ∙ ap (λ (n : ℕ). path_of graph l.reached.items n s) e)) (subst (λ (f : ℕ → List ℕ). IsWay f s (path_of graph l.reached.items (suc l.steps) s)) same w.0)

pub found-cycle : (rows : List Row) (s : ℕ) (graph : List Node) (l : Levels) (path : List ℕ) (es : List Edge) → IsSearched graph s (Some l) → edges_of graph ≡ waits_of rows → path ≡ path_of graph l.reached.items (l.steps + 1) s → AreEdges rows s path es → IsLeastCycle rows s es
found-cycle rows s graph l path es found same is told =
    let e : l.steps + 1 ≡ suc l.steps = omega arith in
    told-cycle graph s l.steps l.reached.items rows es found.0 found.1 same (subst (λ (vs : List ℕ). AreEdges rows s vs es) (is ∙ ap (λ (n : ℕ). path_of graph l.reached.items n s) e) told)

pub found-none : (edges : ℕ → List ℕ) (s : ℕ) (graph : List Node) → IsSearched graph s None → edges_of graph ≡ edges → Chain edges s s → ⊥
found-none edges s graph found same chain =
    let r = chain-goes (edges_of graph) s s (subst (λ (f : ℕ → List ℕ). Chain f s s) (sym same) chain) in
    found r.0 r.1 r.2 r.3
