-- How many steps each session is from the one that is to wait, level by level.
use Rattle.std.specs.Prelude.{◌≡◌, ◌⊎◌, ℕ, zero, suc, ◌+◌, ◌≤◌, ◌<◌, Bool, true, ◌&&◌, not, nat_eq, nat_lt, if◌then◌else◌, List, [], ◌∷◌, map, filter, Option, None, Some, unwrap_or}
use Rattle.std.specs.List.{list_any}
use Rattle.sp_waits.specs.declared.graph.Node.{Node}
use Rattle.sp_waits.specs.declared.levels.Step.{Step}
use Rattle.sp_waits.specs.Edges.{member}

-- the sessions for which this one waits
abbrev pub edges_of : List Node → ℕ → List ℕ
edges_of [] u = []
edges_of (n ∷ ns) u = if nat_eq n.session u then n.waits_for else edges_of ns u

-- the session is reached in that many steps
abbrev pub is_at : ℕ → ℕ → List Step → Bool
is_at v d reached = list_any (λ x. nat_eq x.session v && nat_eq x.steps d) reached

abbrev pub is_reached : ℕ → List Step → Bool
is_reached v reached = list_any (λ x. nat_eq x.session v) reached

-- some of the sessions is reached in that many steps
abbrev pub leads_to : ℕ → List Step → List ℕ → Bool
leads_to d reached vs = list_any (λ v. is_at v d reached) vs

-- a session that is not reached waits for one that is
abbrev pub is_new : ℕ → List Step → Node → Bool
is_new d reached n = not (is_reached n.session reached) && leads_to d reached n.waits_for

abbrev pub stepped : ℕ → Node → Step
stepped d n = record { session = n.session; steps = d + 1 }

-- the next level
abbrev pub level : ℕ → List Step → List Node → List Step
level d reached graph = map (stepped d) (filter (is_new d reached) graph)

-- the first that passes the test and no other is less
abbrev pub lesser : ℕ → Option ℕ → ℕ
lesser x None = x
lesser x (Some y) = if nat_lt y x then y else x

abbrev pub least : (ℕ → Bool) → List ℕ → Option ℕ
least test [] = None
least test (x ∷ xs) = if test x then Some (lesser x (least test xs)) else least test xs

-- the least session for which u waits that is reached in that many steps
abbrev pub next_at : List Node → List Step → ℕ → ℕ → ℕ
next_at graph reached d u = unwrap_or (least (λ v. is_at v d reached) (edges_of graph u)) u

-- and so on, that many times, each time one step nearer
abbrev pub path_of : List Node → List Step → ℕ → ℕ → List ℕ
path_of graph reached zero u = []
path_of graph reached (suc d) u = next_at graph reached d u ∷ path_of graph reached d (next_at graph reached d u)

-- from u that many edges lead to s
abbrev pub Goes : (ℕ → List ℕ) → ℕ → ℕ → ℕ → Type 0
Goes edges s zero u = u ≡ s
Goes edges s (suc d) u = (v : ℕ) × (member v (edges u) ≡ true) × Goes edges s d v

-- each node has the edges of its session
abbrev pub In_graph : Node → List Node → Type 0
In_graph n [] = ⊥
In_graph n (m ∷ ms) = (m ≡ n) ⊎ In_graph n ms

abbrev pub IsGraph : List Node → Type 0
IsGraph graph = (n : Node) → In_graph n graph → n.waits_for ≡ edges_of graph n.session

-- what is known of the sessions that are reached in so many steps or fewer
pub record AreLevels (graph : List Node) (s d : ℕ) (reached : List Step) : Type 0 where
  pub sound : (v e : ℕ) → is_at v e reached ≡ true → Goes (edges_of graph) s e v
  pub nearest : (v e f : ℕ) → is_at v e reached ≡ true → Goes (edges_of graph) s f v → e ≤ f
  pub within : (v e : ℕ) → is_at v e reached ≡ true → e ≤ d
  pub complete : (v f : ℕ) → f ≤ d → Goes (edges_of graph) s f v → (e : ℕ) × (is_at v e reached ≡ true)
  pub unclosed : (v e : ℕ) → e < d → member v (edges_of graph s) ≡ true → is_at v e reached ≡ true → ⊥
