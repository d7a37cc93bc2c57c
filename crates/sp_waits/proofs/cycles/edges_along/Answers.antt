use Rattle.std.proofs.Common.{◌≡◌, ◌≤◌, ℕ, zero, suc, refl, List, [], ◌∷◌, ◌++◌, length, drop, sym, subst, arith, append-nil}
use Rattle.sp_locks.specs.declared.row.Row.{Row}
use Rattle.sp_waits.specs.declared.edge.Edge.{Edge}
use Rattle.sp_waits.specs.Edges.{once_waiting}
use Rattle.sp_waits.specs.Ways.{AreEdges}
use Rattle.sp_waits.proofs.cycles.edges_along.Goals as goal

all-dropped : (vs : List ℕ) (i : ℕ) → length vs ≤ i → drop i vs ≡ []
all-dropped [] zero h = refl
all-dropped [] (suc i) h = refl
all-dropped (v ∷ vs) zero h = absurd (omega arith)
all-dropped (v ∷ vs) (suc i) h = all-dropped vs i (omega arith)

whole : (rows : List Row) (s u : ℕ) (vs rest : List ℕ) (es : List Edge) → rest ≡ [] → ((fs : List Edge) → AreEdges rows u rest fs → AreEdges rows s vs (es ++ fs)) → AreEdges rows s vs es
whole rows s u vs rest es e told = subst (λ (fs : List Edge). AreEdges rows s vs fs) (append-nil es) (told [] (subst (λ (r : List ℕ). AreEdges rows u r []) (sym e) tt))

pub returns : goal.returns
returns c =
    whole (once_waiting c.args.request.now.session c.args.request.now.name c.args.request.now.mode c.args.table.now) c.args.request.now.session c.loop-to.from c.args.path.now (drop c.loop-to.to-index c.args.path.now) c.loop-to.told
    (all-dropped c.args.path.now c.loop-to.to-index (omega arith)) c.loop-to.invariant.told
