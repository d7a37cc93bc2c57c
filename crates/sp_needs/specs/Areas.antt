-- The areas of granules, by their nodes.
use Rattle.std.specs.Prelude.{ℕ, Bool, true, false, List, [], ◌∷◌, map, Option, Some, None, cond, nat_eq}
use Rattle.std.specs.Option.{option_map, option_and_then}
use Rattle.sp_rect.specs.Plane.{Rectangle, whole}
use Rattle.sp_rect.specs.Inside.{bound_of}
use Rattle.sp_node.specs.declared.node.Node.{Node}
use Rattle.sp_node.specs.declared.node.Node.TheVariants.{Leaf, Inner}
use Rattle.sp_node.specs.declared.plan.Part.{Part}
use Rattle.sp_node.specs.Plan.{number_of}
use Rattle.sp_granule.specs.Granules.{Granule, numbered, member_rects}
use Rattle.sp_needs.specs.declared.area.Area.{Area}

-- the area of a granule
abbrev pub area_of : Granule → Area
area_of g = record { space = g.space; holes = g.holes }

-- that of the granule of this number
abbrev pub area_at : List Granule → ℕ → Option Area
area_at gs number = option_map area_of (numbered gs number)

abbrev pub is_leaf_node : Node → Bool
is_leaf_node (Leaf es) = true
is_leaf_node (Inner cs) = false

-- the rectangles that a node leaves to its children
abbrev pub holes_in : Node → List Rectangle
holes_in (Leaf es) = []
holes_in (Inner cs) = map (λ c. c.rect) cs

-- the space of a node of a valid tree, which may be its root
abbrev pub space_in : Bool → Node → Option Rectangle
space_in true n = Some whole
space_in false n = bound_of (member_rects n)

-- the area of its granule
abbrev pub node_area : Bool → Node → Option Area
node_area is_root n = option_map (λ s. record { space = s; holes = holes_in n }) (space_in is_root n)

-- the space of a leaf of a valid tree, which may be its root
abbrev pub leaf_space_in : Bool → Node → Option Rectangle
leaf_space_in is_root (Leaf es) = space_in is_root (Leaf es)
leaf_space_in is_root (Inner cs) = None

-- the granule's space, where it is a leaf's
abbrev pub leaf_space : Granule → Option Rectangle
leaf_space g = cond g.is_leaf (Some g.space) None

-- the space of the leaf of this number
abbrev pub leaf_space_at : List Granule → ℕ → Option Rectangle
leaf_space_at gs number = option_and_then leaf_space (numbered gs number)

-- the first part that names the number
abbrev pub first_part : ℕ → List Part → Option Part
first_part k [] = None
first_part k (p ∷ ps) = cond (nat_eq k (number_of p)) (Some p) (first_part k ps)
