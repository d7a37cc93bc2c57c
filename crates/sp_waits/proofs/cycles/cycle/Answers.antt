use Rattle.std.proofs.Common.{◌≡◌, ◌+◌, ℕ, List, Option, None, Some, sym, subst, ap, ◌∙◌}
use Rattle.sp_waits.specs.declared.graph.Node.{Node}
use Rattle.sp_waits.specs.declared.levels.Levels.{Levels}
use Rattle.sp_waits.specs.Edges.{waits_of, once_waiting}
use Rattle.sp_waits.specs.Search.{waits_for}
use Rattle.sp_waits.specs.Levels.{path_of}
use Rattle.sp_waits.specs.Levelled.{IsSearched}
use Rattle.sp_waits.specs.Ways.{IsWay, AreEdges}
use Rattle.sp_waits.proofs.Telling.{same-edges, found-way, found-cycle, found-none}
use Rattle.sp_waits.proofs.cycles.cycle.Goals as goal

-- what was searched is the graph
searched : (graph ns : List Node) (s : ℕ) (o o' : Option Levels) → ns ≡ graph → o ≡ o' → IsSearched ns s o → IsSearched graph s o'
searched graph ns s o o' e f h = subst (λ (p : Option Levels). IsSearched graph s p) f (subst (λ (ms : List Node). IsSearched ms s o) e h)

pub edges_along-requires-clause-way : goal.edges_along-requires-clause-way
edges_along-requires-clause-way c =
    subst (IsWay (waits_for c.args.table.now c.args.session c.args.name c.args.mode) c.args.session) (sym c.as_slice-in-Some-2.ensures)
    (found-way (waits_for c.args.table.now c.args.session c.args.name c.args.mode) c.args.session c.in_ok-graph.graph.items c.in-Some.levels c.in_ok-path-in-Some.path
    (searched c.in_ok-graph.graph.items c.as_slice.result.now c.args.session c.in_ok-levels.field-0 (Some c.in-Some.levels) c.as_slice.ensures.value c.in-Some.is c.in_ok-levels.ensures) c.in_ok-graph.ensures.0
    (c.in_ok-path-in-Some.ensures ∙ ap (λ ms. path_of ms c.in-Some.levels.reached.items (c.in-Some.levels.steps + 1) c.args.session) c.as_slice-in-Some.ensures.value))

pub returns-in-Some : goal.returns-in-Some
returns-in-Some c =
    found-cycle (once_waiting c.args.session c.args.name c.args.mode c.args.table.now) c.args.session c.in_ok-graph.graph.items c.in-Some.levels c.in_ok-path-in-Some.path c.in_ok-edges_along-in-Some.field-0
    (searched c.in_ok-graph.graph.items c.as_slice.result.now c.args.session c.in_ok-levels.field-0 (Some c.in-Some.levels) c.as_slice.ensures.value c.in-Some.is c.in_ok-levels.ensures)
    (c.in_ok-graph.ensures.0 ∙ sym (same-edges c.args.table.now c.args.session c.args.name c.args.mode c.on.ensures.sound c.requires.awake))
    (c.in_ok-path-in-Some.ensures ∙ ap (λ ms. path_of ms c.in-Some.levels.reached.items (c.in-Some.levels.steps + 1) c.args.session) c.as_slice-in-Some.ensures.value)
    (subst (λ vs. AreEdges (once_waiting c.args.session c.args.name c.args.mode c.args.table.now) c.args.session vs c.in_ok-edges_along-in-Some.field-0) c.as_slice-in-Some-2.ensures c.in_ok-edges_along-in-Some.ensures)

pub returns : goal.returns
returns c chain =
    found-none (waits_of (once_waiting c.args.session c.args.name c.args.mode c.args.table.now)) c.args.session c.in_ok-graph.graph.items
    (searched c.in_ok-graph.graph.items c.as_slice.result.now c.args.session c.in_ok-levels.field-0 None c.as_slice.ensures.value c.in-None.is c.in_ok-levels.ensures)
    (c.in_ok-graph.ensures.0 ∙ sym (same-edges c.args.table.now c.args.session c.args.name c.args.mode c.on.ensures.sound c.requires.awake)) chain
