-- What the table has after an insertion into a tree with changes on it.
use Rattle.std.specs.Prelude.{◌≡◌, ℕ, zero, suc, ◌+◌, ◌<◌, ◌≤◌, ◌⊎◌, true, List, [], ◌∷◌, ◌++◌, length, Some}
use Rattle.std.specs.List.{AllByRecursion, sum_by}
use Rattle.std.specs.Option.{IsSome}
use Rattle.sp_rect.specs.Inside.{bound_of}
use Rattle.sp_node.specs.declared.node.Entry.{Entry}
use Rattle.sp_node.specs.declared.node.Shape.{Shape}
use Rattle.sp_node.specs.declared.plan.Part.{Part}
use Rattle.sp_node.specs.declared.plan.Plan.{Plan}
use Rattle.sp_node.specs.Among.{Among}
use Rattle.sp_node.specs.Nested.{Member, rects, entries, AreSound}
use Rattle.sp_node.specs.Look.{look}
use Rattle.sp_node.specs.Plan.{with_parts, number_of}
use Rattle.sp_node.specs.Table.{Table, body_at, Stands}
use Rattle.sp_split.specs.Split.{is_among}
use Rattle.sp_grow.specs.Below.{numbers, numbers_in, IsNow}
use Rattle.sp_grow.specs.Nest.{nest, IsInserted}

-- a sound member of a node of this level
abbrev pub IsPart : Shape → (k : ℕ) → Member k → Type 0
IsPart shape zero e = Unit {0}
IsPart shape (suc k) b = (bound_of (rects k b.body) ≡ Some b.rect) × (shape.min ≤ length b.body) × (length b.body ≤ shape.max) × AreSound shape k b.body

-- the next c numbers
abbrev pub new_numbers : ℕ → ℕ → List ℕ
new_numbers next zero = []
new_numbers next (suc c) = new_numbers next c ++ (next + c) ∷ []

abbrev pub own_numbers : Table → ℕ → List ℕ
own_numbers t level = numbers level t.root (body_at (look t.nodes) level t.root)

-- The tree that the changes of an insertion leave: sound, with new numbers and with the entries of the new member.
pub record IsAfter (t : Table) (k : ℕ) (x : Member k) (level : ℕ) (parts : List Part) (root' next' level' : ℕ) : Type 0 where
  pub stands : Stands (look (with_parts t.nodes parts)) level' root'
  pub count : ℕ
  pub next_is : next' ≡ t.next + count
  pub few : next' ≤ t.next + level + 2
  pub sums : (f : ℕ → ℕ) → sum_by f (numbers level' root' (body_at (look (with_parts t.nodes parts)) level' root')) ≡ sum_by f (own_numbers t level ++ numbers_in k x) + sum_by f (new_numbers t.next count)
  pub sound : AreSound t.shape level' (body_at (look (with_parts t.nodes parts)) level' root')
  pub most : length (body_at (look (with_parts t.nodes parts)) level' root') ≤ t.shape.max
  pub some : 0 < level' → 0 < length (body_at (look (with_parts t.nodes parts)) level' root')
  pub entry_sums : (w : Entry → ℕ) → sum_by w (entries level' (body_at (look (with_parts t.nodes parts)) level' root')) ≡ sum_by w (entries level (body_at (look t.nodes) level t.root)) + sum_by w (entries k (x ∷ []))
  pub each : (es : List Entry) → AllByRecursion (λ f. Among f es) (entries level (body_at (look t.nodes) level t.root)) → AllByRecursion (λ f. Among f es) (entries k (x ∷ [])) → AllByRecursion (λ f. Among f es) (entries level' (body_at (look (with_parts t.nodes parts)) level' root'))
  -- the changes are at the numbers of the tree and at new ones, and drop no node
  pub owned : AllByRecursion (λ p. (is_among (own_numbers t level) (number_of p) ≡ true) ⊎ ((t.next ≤ number_of p) × (number_of p < next'))) parts
  pub made : (j : ℕ) → t.next ≤ j → j < next' → IsSome (look (with_parts t.nodes parts) j)
  pub now : AllByRecursion IsNow parts
  pub inserted : IsInserted t.shape k x (nest level t.root t.next (body_at (look t.nodes) level t.root)) (nest level' root' next' (body_at (look (with_parts t.nodes parts)) level' root'))

-- the root is the old one and stays at its level, or it is a new one above
pub data Reached (t : Table) (k : ℕ) (x : Member k) (level : ℕ) (plan : Plan) : Type 0 where
  whole : plan.root ≡ t.root → IsAfter t k x level plan.parts plan.root plan.next level → Reached t k x level plan
  split : (plan.root ≡ t.root → ⊥) → IsAfter t k x level plan.parts plan.root plan.next (suc level) → Reached t k x level plan
