-- What a change of the tree does to granules, number by number.
use Rattle.std.specs.Prelude.{◌≡◌, ℕ, Bool, true, false, ◌&&◌, List, [], map, is_some, is_none, Option}
use Rattle.std.specs.List.{list_any}
use Rattle.std.specs.Option.{option_map}
use Rattle.sp_rect.specs.Plane.{Rectangle, Point}
use Rattle.sp_region.specs.Region.{is_left}
use Rattle.sp_node.specs.declared.node.Entry.{Entry}
use Rattle.sp_node.specs.declared.node.Node.{Node}
use Rattle.sp_node.specs.declared.node.Node.TheVariants.{Leaf, Inner}
use Rattle.sp_node.specs.declared.plan.Part.{Part}
use Rattle.sp_node.specs.Among.{Among}
use Rattle.sp_node.specs.Look.{look, entries_in}
use Rattle.sp_node.specs.Index.{leaf_with}
use Rattle.sp_node.specs.Plan.{number_of, content}
use Rattle.sp_granule.specs.Granules.{Granule, numbered, IsMeeting}
use Rattle.sp_protection.specs.Guarding.{IsSame}
use Rattle.sp_ops.specs.declared.areas.Area.{Area}

-- the area of a granule
abbrev pub area_of : Granule → Area
area_of g = record { is_leaf = g.is_leaf; space = g.space; holes = g.holes }

-- that of the granule of this number
abbrev pub area_at : List Granule → ℕ → Option Area
area_at gs number = option_map area_of (numbered gs number)

-- the rectangles that a node leaves to its children
abbrev pub holes_in : Node → List Rectangle
holes_in (Leaf es) = []
holes_in (Inner cs) = map (λ c. c.rect) cs

-- of one kind, with the same points
pub record AreAlike (a b : Area) : Type 0 where
  pub is_leaf : a.is_leaf ≡ b.is_leaf
  pub points : (p : Point) → is_left a.space a.holes p ≡ is_left b.space b.holes p

-- the granule of this number is the same in both, or is in neither
pub record IsKept (gs gs' : List Granule) (number : ℕ) : Type 0 where
  pub there : (g : Granule) → Among g gs → g.number ≡ number → (same : Granule) × Among same gs' × IsSame g same
  pub back : (g : Granule) → Among g gs' → g.number ≡ number → (same : Granule) × Among same gs × IsSame g same

-- the tree has no entry of this number
abbrev pub is_new : List (ℕ × Node) → Entry → Bool
is_new nodes e = is_none (leaf_with nodes e.number)

-- the part changes a leaf, which gets an entry that the tree lacks
abbrev pub is_entered : List (ℕ × Node) → Part → Bool
is_entered nodes p = is_some (look nodes (number_of p)) && list_any (is_new nodes) (entries_in (content p))

-- one of the rectangles meets the granule of this number, which the tree has too
pub record IsSearched (nodes : List (ℕ × Node)) (gs' : List Granule) (searches : List Rectangle) (number : ℕ) : Type 0 where
  pub rect : Rectangle
  pub among : Among rect searches
  pub meets : IsMeeting gs' rect number
  pub had : is_some (look nodes number) ≡ true

abbrev pub is_leaf_node : Node → Bool
is_leaf_node (Leaf es) = true
is_leaf_node (Inner cs) = false
