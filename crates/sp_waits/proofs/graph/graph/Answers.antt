use Rattle.std.proofs.Common.{◌≡◌, ℕ, List, [], ◌∷◌, ◌++◌, map, sym, ap, ◌∙◌, subst, rules}
use Rattle.std.specs.Prelude.{Result, Ok, Err, IfOk}
use Rattle.sp_waits.specs.declared.graph.Node.{Node}
use Rattle.sp_waits.specs.Search.{waits_for}
use Rattle.sp_waits.specs.Levels.{edges_of, IsGraph}
use Rattle.sp_waits.proofs.Graphs.{node, all-edges, is-graph, no-edges}
use Rattle.sp_waits.proofs.graph.graph.Goals as goal

made : (f : ℕ → List ℕ) (ss : List ℕ) (graph : List Node) → graph ≡ map (node f) ss → edges_of (map (node f) ss) ≡ f → (edges_of graph ≡ f) × IsGraph graph
made f ss graph e all = (ap edges_of e ∙ all, subst IsGraph (sym e) (is-graph f ss all))

if-ok : {A E : Type 0} (r : Result A E) (P Q : A → Type 0) → ((a : A) → P a → Q a) → IfOk r P → IfOk r Q
if-ok (Ok a) P Q f h = f a h
if-ok (Err e) P Q f h = h

pub returns : goal.returns
returns c =
    let request = c.args.request.now in
    let f = waits_for c.args.table.now request.session request.name request.mode in
    let ss : c.as_slice.result.now ≡ c.in_ok-sessions.sessions ++ request.session ∷ [] = search rules in
    if-ok c.nodes.result _ _
    (λ v e. made f (c.in_ok-sessions.sessions ++ request.session ∷ []) v.items (e ∙ ap (map (node f)) ss) (all-edges f (c.in_ok-sessions.sessions ++ request.session ∷ []) (no-edges c.args.table.now request.session request.name request.mode c.in_ok-sessions.sessions c.in_ok-sessions.ensures)))
    c.nodes.ensures
