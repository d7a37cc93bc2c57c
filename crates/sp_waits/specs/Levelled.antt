-- What a search level by level finds.
use Rattle.std.specs.Prelude.{◌≡◌, ℕ, ◌≤◌, true, List, length, Option, None, Some}
use Rattle.sp_waits.specs.declared.graph.Node.{Node}
use Rattle.sp_waits.specs.declared.levels.Levels.{Levels}
use Rattle.sp_waits.specs.Edges.{member}
use Rattle.sp_waits.specs.Levels.{edges_of, leads_to, Goes, AreLevels}

-- either no edges lead from s back to it, or some lead to the last level
abbrev pub IsSearched : List Node → ℕ → Option Levels → Type 0
IsSearched graph s None = (n v : ℕ) → member v (edges_of graph s) ≡ true → Goes (edges_of graph) s n v → ⊥
IsSearched graph s (Some l) = AreLevels graph s l.steps l.reached.items × (leads_to l.steps l.reached.items (edges_of graph s) ≡ true) × (l.steps ≤ length graph)
