-- The way up from the leaf that an entry leaves, on a table of nodes. No public clause speaks of it.
use Rattle.std.specs.Prelude.{◌≡◌, ℕ, zero, suc, ◌+◌, ◌<◌, ◌≤◌, ◌⊎◌, true, List, [], ◌∷◌, ◌++◌, length, map, take, drop, Option, Some, None, slice_get}
use Rattle.std.specs.List.{AllByRecursion, flat_map, sum_by}
use Rattle.sp_rect.specs.Plane.{Rectangle}
use Rattle.sp_rect.specs.Inside.{bound_of}
use Rattle.sp_node.specs.declared.node.Entry.{Entry}
use Rattle.sp_node.specs.declared.node.Child.{Child}
use Rattle.sp_node.specs.declared.node.Node.{Node}
use Rattle.sp_node.specs.declared.node.Node.TheVariants.{Leaf, Inner}
use Rattle.sp_node.specs.declared.plan.Part.{Part}
use Rattle.sp_node.specs.declared.plan.Part.TheVariants.{Now, Gone}
use Rattle.sp_node.specs.Nested.{Member, Body, rects}
use Rattle.sp_node.specs.Look.{look}
use Rattle.sp_node.specs.Plan.{number_of, content, put_part, AreOrdered}
use Rattle.sp_node.specs.Table.{Table, body_at, Stands}
use Rattle.sp_split.specs.Split.{is_among}
use Rattle.sp_grow.specs.declared.member.Member.{Member as Item}
use Rattle.sp_grow.specs.declared.member.Member.TheVariants.{Entry as EntryOf, Child as ChildOf}
use Rattle.sp_grow.specs.Members.{rects_in}
use Rattle.sp_grow.specs.Below.{numbers, numbers_in, branch_at}
use Rattle.sp_condense.specs.declared.orphans.Orphan.{Orphan as Found}
use Rattle.sp_condense.specs.declared.rest.Rest.{Rest}
use Rattle.sp_condense.specs.Removal.{Orphan, Removes}

abbrev pub size_of : Node → ℕ
size_of (Leaf es) = length es
size_of (Inner cs) = length cs

-- the members of a node that stood so many steps below the root
abbrev pub members_in : ℕ → Node → List Found
members_in depth (Leaf es) = map (λ e. record { depth = depth; member = EntryOf e }) es
members_in depth (Inner cs) = map (λ c. record { depth = depth; member = ChildOf c }) cs

-- an entry of this number stands at the place
abbrev pub IsHere : List Entry → ℕ → ℕ → Type 0
IsHere es number at = (e : Entry) × (slice_get es at ≡ Some e) × (e.number ≡ number)

-- the node above one that keeps its place
abbrev pub IsKeptAbove : List Child → ℕ → Child → Rest → Rest → Type 0
IsKeptAbove cs at c below rest = (rect : Rectangle) × (bound_of (rects_in below.node) ≡ Some rect) × (rest.node ≡ Inner (take at cs ++ record { rect = rect; node = c.node } ∷ drop (at + 1) cs)) × (rest.parts ≡ put_part below.parts (Now c.node below.node)) × (rest.orphans.items ≡ below.orphans.items)

-- the node above one that is dropped
abbrev pub IsDroppedAbove : List Child → ℕ → Child → ℕ → Rest → Rest → Type 0
IsDroppedAbove cs at c depth below rest = (rest.node ≡ Inner (take at cs ++ drop (at + 1) cs)) × (rest.parts ≡ put_part below.parts (Gone c.node)) × (rest.orphans.items ≡ members_in depth below.node ++ below.orphans.items)

abbrev pub IsAbove : ℕ → List Child → ℕ → Child → ℕ → Rest → Rest → Type 0
IsAbove min cs at c depth below rest = ((min ≤ size_of below.node) × IsKeptAbove cs at c below rest) ⊎ ((size_of below.node < min) × IsDroppedAbove cs at c depth below rest)

-- the numbers below a node
abbrev pub under : (level : ℕ) → Body level → List ℕ
under zero es = []
under (suc level) branches = flat_map (λ b. numbers level b.number b.body) branches

-- what the parts name is as they say, and else these numbers are as before
pub record Follows (before after : ℕ → Option Node) (ns : List ℕ) (parts : List Part) : Type 0 where
  pub said : AllByRecursion (λ p. after (number_of p) ≡ content p) parts
  pub kept : (k : ℕ) → is_among ns k ≡ true → AllByRecursion (λ p. ¬ (number_of p ≡ k)) parts → after k ≡ before k

-- the node has these members
abbrev pub Reads : (ℕ → Option Node) → (level : ℕ) → Node → Body level → Type 0
Reads at zero (Leaf es) members = es ≡ members
Reads at zero (Inner cs) members = ⊥
Reads at (suc level) (Leaf es) members = ⊥
Reads at (suc level) (Inner cs) members = (map (branch_at at level) cs ≡ members) × AllByRecursion (λ c. Stands at level c.node) cs

-- the orphan is a member of this level, which stood so many steps below a root of that level
abbrev pub IsFound : (ℕ → Option Node) → Item → (k : ℕ) → Member k → Type 0
IsFound at (EntryOf e) zero x = x ≡ e
IsFound at (EntryOf e) (suc j) x = ⊥
IsFound at (ChildOf c) zero x = ⊥
IsFound at (ChildOf c) (suc j) x = (x ≡ branch_at at j c) × Stands at j c.node

abbrev pub AreFound : (ℕ → Option Node) → ℕ → List Found → List Orphan → Type 0
AreFound at top [] [] = Unit {0}
AreFound at top [] (o ∷ os) = ⊥
AreFound at top (f ∷ fs) [] = ⊥
AreFound at top (f ∷ fs) (o ∷ os) = (f.depth + o.level ≡ top) × IsFound at f.member o.level o.member × AreFound at top fs os

abbrev pub orphan_numbers : List Orphan → List ℕ
orphan_numbers os = flat_map (λ o. numbers_in o.level o.member) os

-- an entry of this number was taken out below the node
pub record IsTaken (t : Table) (number : ℕ) (level at depth : ℕ) (rest : Rest) : Type 0 where
  pub entry : Entry
  pub named : entry.number ≡ number
  pub left : Body level
  pub orphans : List Orphan
  pub removes : Removes t.shape level (body_at (look t.nodes) level at) entry left orphans
  pub same_rects : rects_in rest.node ≡ rects level left
  pub gone : List ℕ
  pub sums : (f : ℕ → ℕ) → sum_by f (under level left) + sum_by f (orphan_numbers orphans) + sum_by f gone ≡ sum_by f (under level (body_at (look t.nodes) level at))
  pub owned : AllByRecursion (λ p. is_among (under level (body_at (look t.nodes) level at)) (number_of p) ≡ true) rest.parts
  pub ordered : AreOrdered rest.parts
  -- in any table that follows the parts
  pub reads : (after : ℕ → Option Node) → Follows (look t.nodes) after (under level (body_at (look t.nodes) level at)) rest.parts → Reads after level rest.node left
  pub found : (after : ℕ → Option Node) → Follows (look t.nodes) after (under level (body_at (look t.nodes) level at)) rest.parts → AreFound after (depth + level) rest.orphans.items orphans
  pub dropped : (after : ℕ → Option Node) → Follows (look t.nodes) after (under level (body_at (look t.nodes) level at)) rest.parts → AllByRecursion (λ k. after k ≡ None) gone
