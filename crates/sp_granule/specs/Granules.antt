-- Granules: the parts of space that the nodes of a tree stand for, and that locks name, after Chakrabarti and
-- Mehrotra ("Dynamic Granular Locking Approach to Phantom Protection in R-Trees", ICDE 1998). A leaf's granule is
-- its space; an inner node's is what its children's rectangles leave of its space.
use Rattle.std.specs.Prelude.{◌≡◌, ℕ, zero, suc, Bool, true, false, IsTrue, List, [], ◌∷◌, map, Option, Some, None, cond, nat_eq}
use Rattle.std.specs.Option.{option_map}
use Rattle.sp_rect.specs.Plane.{Rectangle, Point, holds}
use Rattle.sp_region.specs.Region.{is_left}
use Rattle.sp_node.specs.declared.node.Entry.{Entry}
use Rattle.sp_node.specs.declared.node.Node.{Node}
use Rattle.sp_node.specs.declared.node.Node.TheVariants.{Leaf, Inner}
use Rattle.sp_node.specs.Nested.{Body, Place}
use Rattle.sp_node.specs.Table.{Table, places_of}
use Rattle.sp_node.specs.Among.{Among}

-- what granules see of an entry: its value and its marks change under them
pub record Standing : Type 0 where
  pub number : ℕ
  pub id : ℕ
  pub rect : Rectangle

abbrev pub standing : Entry → Standing
standing e = record { number = e.number; id = e.id; rect = e.rect }

-- a granule: its node's number and kind, its node's space, the rectangles of the children, which are holes in it,
-- and the entries that stand in it
pub record Granule : Type 0 where
  pub number : ℕ
  pub is_leaf : Bool
  pub space : Rectangle
  pub holes : List Rectangle
  pub entries : List Standing

-- the granule of a node of this level. A leaf has no holes, and an inner node no entries
abbrev pub granule_of_node : (level : ℕ) → ℕ → Rectangle → Body level → Granule
granule_of_node zero number space entries =
    record { number = number; is_leaf = true; space = space; holes = []; entries = map standing entries }
granule_of_node (suc level) number space branches =
    record { number = number; is_leaf = false; space = space; holes = map (λ b. b.rect) branches; entries = [] }

abbrev pub granule : Place → Granule
granule place = granule_of_node place.level place.number place.space place.body

-- the granules of a tree, in preorder. The root's space is all of space
unfoldable pub granules : Table → List Granule
granules t = map granule (places_of t)

-- whether the point lies in the granule
abbrev pub in_granule : Granule → Point → Bool
in_granule g p = is_left g.space g.holes p

-- one of these granules has this number and the point
abbrev pub HasPoint : List Granule → ℕ → Point → Type 0
HasPoint gs number p = (g : Granule) × Among g gs × (g.number ≡ number) × IsTrue (in_granule g p)

-- one of these granules has this number and a point of the rectangle
abbrev pub IsMeeting : List Granule → Rectangle → ℕ → Type 0
IsMeeting gs rect number = (p : Point) × IsTrue (holds rect p) × HasPoint gs number p

-- the granule of this number
abbrev pub numbered : List Granule → ℕ → Option Granule
numbered [] number = None
numbered (g ∷ gs) number = cond (nat_eq number g.number) (Some g) (numbered gs number)

-- its space
abbrev pub space_of : List Granule → ℕ → Option Rectangle
space_of gs number = option_map (λ g. g.space) (numbered gs number)

-- the rectangles of the members of a node
abbrev pub member_rects : Node → List Rectangle
member_rects (Leaf entries) = map (λ e. e.rect) entries
member_rects (Inner children) = map (λ c. c.rect) children
