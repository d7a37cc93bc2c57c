-- Ways along edges, and the edges that tell them.
use Rattle.std.specs.Prelude.{◌≡◌, ℕ, true, List, [], ◌∷◌}
use Rattle.sp_locks.specs.declared.row.Row.{Row}
use Rattle.sp_waits.specs.declared.edge.Edge.{Edge}
use Rattle.sp_waits.specs.Edges.{member}
use Rattle.sp_waits.specs.Cycles.{IsEdge}

-- from u each session waits for the next
abbrev pub IsWay : (ℕ → List ℕ) → ℕ → List ℕ → Type 0
IsWay edges u [] = Unit {0}
IsWay edges u (v ∷ vs) = (member v (edges u) ≡ true) × IsWay edges v vs

-- the edges from u over these sessions, in order
abbrev pub AreEdges : List Row → ℕ → List ℕ → List Edge → Type 0
AreEdges rows u [] [] = Unit {0}
AreEdges rows u [] (e ∷ es) = ⊥
AreEdges rows u (v ∷ vs) [] = ⊥
AreEdges rows u (v ∷ vs) (e ∷ es) = (e.from ≡ u) × (e.to ≡ v) × IsEdge rows e × AreEdges rows v vs es
