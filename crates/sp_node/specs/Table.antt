-- A tree as the table of its nodes.
use Rattle.std.specs.Prelude.{ℕ, zero, suc, ◌*◌, ◌<◌, ◌≤◌, List, [], ◌∷◌, ◌++◌, map, length, Option, Some, None, nat_eq}
use Rattle.std.specs.List.{filter}
use Rattle.std.specs.Option.{option_map}
use Rattle.sp_rect.specs.Plane.{meets}
use Rattle.std.specs.List.{AllByRecursion, IsDistinct}
use Rattle.std.specs.List.Sorted.{IsPermutation}
use Rattle.sp_rect.specs.Plane.{Rectangle, whole, IsRectangle}
use Rattle.sp_node.specs.declared.node.Entry.{Entry}
use Rattle.sp_node.specs.declared.node.Child.{Child}
use Rattle.sp_node.specs.declared.node.Node.{Node}
use Rattle.sp_node.specs.declared.node.Node.TheVariants.{Leaf, Inner}
use Rattle.sp_node.specs.declared.node.Shape.{Shape}
use Rattle.sp_node.specs.Look.{look, entries_in}
use Rattle.sp_node.specs.Nested.{Body, Place, places, entries, AreSound, IsRootSize}

-- what stands under the numbers, by ascending number
pub record Table : Type 0 where
  pub shape : Shape
  pub root : ℕ
  pub next : ℕ
  pub nodes : List (ℕ × Node)

abbrev pub children_in : Option Node → List Child
children_in None = []
children_in (Some (Leaf es)) = []
children_in (Some (Inner cs)) = cs

-- what the table has at and below a number, as a body of this level
abbrev pub body_at : (ℕ → Option Node) → (level : ℕ) → ℕ → Body level
body_at at zero number = entries_in (at number)
body_at at (suc level) number = map (λ c. record { rect = c.rect; number = c.node; body = body_at at level c.node }) (children_in (at number))

abbrev pub IsLeaf : Option Node → Type 0
IsLeaf None = ⊥
IsLeaf (Some (Leaf es)) = Unit {0}
IsLeaf (Some (Inner cs)) = ⊥

abbrev pub IsInner : Option Node → Type 0
IsInner None = ⊥
IsInner (Some (Leaf es)) = ⊥
IsInner (Some (Inner cs)) = Unit {0}

-- the number has a node of this level, and so has each number below it
abbrev pub Stands : (ℕ → Option Node) → (level : ℕ) → ℕ → Type 0
Stands at zero number = IsLeaf (at number)
Stands at (suc level) number = IsInner (at number) × AllByRecursion (λ c. Stands at level c.node) (children_in (at number))

-- how far it is to a leaf by first children, in at most so many steps
abbrev pub below_first : (ℕ → ℕ) → List Child → ℕ
below_first f [] = 0
below_first f (c ∷ cs) = suc (f c.node)

abbrev pub depth : (ℕ → Option Node) → ℕ → ℕ → ℕ
depth at zero number = 0
depth at (suc steps) number = below_first (λ n. depth at steps n) (children_in (at number))

-- the root's level
unfoldable pub level_of : Table → ℕ
level_of t = depth (look t.nodes) (length t.nodes) t.root

abbrev pub numbers_at : Table → ℕ → List ℕ
numbers_at t level = map (λ p. p.number) (places level t.root whole (body_at (look t.nodes) level t.root))

-- the nodes of the tree, each with its space
abbrev pub places_of : Table → List Place
places_of t = places (level_of t) t.root whole (body_at (look t.nodes) (level_of t) t.root)

abbrev pub entries_of : Table → List Entry
entries_of t = entries (level_of t) (body_at (look t.nodes) (level_of t) t.root)

pub record IsShape (shape : Shape) : Type 0 where
  pub most : shape.max ≤ 64
  pub half : 2 * shape.min ≤ shape.max
  pub least : 2 ≤ shape.min

-- a valid tree whose root has this level
pub record IsValidAt (t : Table) (level : ℕ) : Type 0 where
  pub shape : IsShape t.shape
  -- each number that the tree names has a node of its level
  pub stands : Stands (look t.nodes) level t.root
  -- and no other number has a node
  pub whole_table : IsPermutation (map (λ n. n.0) t.nodes) (numbers_at t level)
  pub distinct : IsDistinct nat_eq (numbers_at t level)
  pub below_next : AllByRecursion (λ n. n < t.next) (numbers_at t level)
  pub root_size : IsRootSize t.shape level (length (body_at (look t.nodes) level t.root))
  pub sound : AreSound t.shape level (body_at (look t.nodes) level t.root)
  pub distinct_entries : IsDistinct nat_eq (map (λ e. e.number) (entries level (body_at (look t.nodes) level t.root)))
  -- entries lie in space
  pub in_space : AllByRecursion (λ e. IsRectangle e.rect) (entries level (body_at (look t.nodes) level t.root))

abbrev pub IsValid : Table → Type 0
IsValid t = IsValidAt t (level_of t)

-- the tree of one empty leaf with number 1
abbrev pub empty_tree : Shape → Table
empty_tree shape = record { shape = shape; root = 1; next = 2; nodes = (1, Leaf []) ∷ [] }

-- the numbers told, with more at the end
abbrev pub told : Option (List ℕ) → List ℕ → Option (List ℕ)
told before more = option_map (λ xs. xs ++ more) before

-- the numbers of the entries that meet a rectangle
unfoldable pub entries_meeting : Table → Rectangle → List ℕ
entries_meeting t q = map (λ e. e.number) (filter (λ e. meets e.rect q) (entries_of t))

-- the numbers of the nodes whose space meets a rectangle
unfoldable pub nodes_meeting : Table → Rectangle → List ℕ
nodes_meeting t q = map (λ p. p.number) (filter (λ p. meets p.space q) (places_of t))

-- the numbers of the entries with this id
unfoldable pub entries_with_id : Table → ℕ → List ℕ
entries_with_id t id = map (λ e. e.number) (filter (λ e. nat_eq id e.id) (entries_of t))
