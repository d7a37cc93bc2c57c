-- What a change of a tree does to granules, by their numbers.
use Rattle.std.specs.Prelude.{◌≡◌, ◌↔◌, ◌⊎◌, ℕ, Bool, true, false, ◌&&◌, not, cond, nat_eq, IsTrue, List, [], ◌∷◌, Option, Some, None}
use Rattle.std.specs.List.{flat_map, list_any}
use Rattle.sp_locks.specs.declared.mode.Mode.TheVariants.{IX, SIX}
use Rattle.sp_locks.specs.declared.row.Name.TheVariants.{Granule as OnGranule}
use Rattle.sp_locks.specs.declared.row.Duration.TheVariants.{Short}
use Rattle.sp_locks.specs.declared.needs.Need.{Need}
use Rattle.sp_rect.specs.Plane.{Rectangle, Point}
use Rattle.sp_region.specs.Region.{covered, is_left}
use Rattle.sp_node.specs.declared.node.Entry.{Entry}
use Rattle.sp_node.specs.declared.node.Node.{Node}
use Rattle.sp_node.specs.declared.plan.Part.{Part}
use Rattle.sp_node.specs.Among.{Among}
use Rattle.sp_node.specs.Index.{leaf_with}
use Rattle.sp_node.specs.Look.{entries_in}
use Rattle.sp_node.specs.Plan.{number_of, content}
use Rattle.sp_granule.specs.Granules.{Granule, numbered, in_granule, HasPoint}
use Rattle.sp_protection.specs.Reshape.{Loses, IsGone, Gives}
use Rattle.sp_needs.specs.Areas.{area_at, leaf_space_at}

-- the granule of this number has the same area after the change, and is a leaf's still where it was one's
abbrev pub IsKept : List Granule → List Granule → ℕ → Type 0
IsKept gs gs' number = (area_at gs' number ≡ area_at gs number) × (leaf_space_at gs' number ≡ leaf_space_at gs number)

-- so have those of all the numbers, but for the others
abbrev pub AreKeptBut : List Granule → List Granule → List ℕ → List ℕ → Type 0
AreKeptBut gs gs' numbers others = (n : ℕ) → Among n numbers → IsKept gs gs' n ⊎ Among n others

-- both have a leaf of this number, with the same space
abbrev pub IsSameLeaf : List Granule → List Granule → ℕ → Type 0
IsSameLeaf gs gs' number = (space : Rectangle) × (leaf_space_at gs number ≡ Some space) × (leaf_space_at gs' number ≡ Some space)

-- the granule of this number loses a point or is gone
pub record IsLost (gs gs' : List Granule) (number : ℕ) : Type 0 where
  pub granule : Granule
  pub among : Among granule gs
  pub named : granule.number ≡ number
  pub is : Loses gs' granule ⊎ IsGone gs' granule

-- what was found is just that among the numbers of which it is so
abbrev pub AreThose : (ℕ → Type 0) → List ℕ → List ℕ → Type 0
AreThose P numbers found = (n : ℕ) → Among n found ↔ (Among n numbers × P n)

-- the same, added to what had been found
abbrev pub AreAdded : (ℕ → Type 0) → List ℕ → List ℕ → List ℕ → Type 0
AreAdded P numbers old new = (n : ℕ) → Among n new ↔ (Among n old ⊎ (Among n numbers × P n))

-- whether the granule of this number is a leaf with the point
abbrev pub is_leaf_with : Point → Option Granule → Bool
is_leaf_with p None = false
is_leaf_with p (Some g) = g.is_leaf && in_granule g p

abbrev pub leaf_has : List Granule → Point → ℕ → Bool
leaf_has gs p number = is_leaf_with p (numbered gs number)

-- whether the leaf of this number has the point after the change and not before
abbrev pub gains : List Granule → List Granule → Point → ℕ → Bool
gains gs gs' p number = leaf_has gs' p number && not (leaf_has gs p number)

-- where there is a gain, the rectangles have just the points of the leaves of these numbers
abbrev pub AreSourcesFor : List Rectangle → List Granule → List ℕ → List Rectangle → Type 0
AreSourcesFor gained gs numbers rects = (gain : Rectangle) → Among gain gained → (p : Point) → covered rects p ≡ list_any (leaf_has gs p) numbers

-- the granule of this number has a point of the rectangle that the others leave
abbrev pub HasLeftOf : List Granule → List Rectangle → Rectangle → ℕ → Type 0
HasLeftOf gs others rect number = (p : Point) × IsTrue (is_left rect others p) × HasPoint gs number p

-- that of one of the rectangles
abbrev pub HasLeftOfAny : List Granule → List Rectangle → List Rectangle → ℕ → Type 0
HasLeftOfAny gs others rects number = (rect : Rectangle) × Among rect rects × HasLeftOf gs others rect number

-- the leaf, where it is there and another
abbrev pub other_leaf : ℕ → Option ℕ → List ℕ
other_leaf leaf None = []
other_leaf leaf (Some old) = cond (nat_eq old leaf) [] (old ∷ [])

-- the leaf that the entry left for the leaf of this number
abbrev pub left_by : List (ℕ × Node) → ℕ → Entry → List ℕ
left_by nodes leaf e = other_leaf leaf (leaf_with nodes e.number)

abbrev pub left_by_any : List (ℕ × Node) → ℕ → List Entry → List ℕ
left_by_any nodes leaf es = flat_map (left_by nodes leaf) es

-- those of the part's entries
abbrev pub left_by_part : List (ℕ × Node) → Part → List ℕ
left_by_part nodes part = left_by_any nodes (number_of part) (entries_in (content part))

-- the need on a granule: SIX on a leaf that gives an entry away, and IX on any other
abbrev pub need_on : List ℕ → ℕ → Need
need_on givers number = record { name = OnGranule number; mode = cond (list_any (nat_eq number) givers) SIX IX; duration = Short }

-- an entry of the leaf of this number moves to another leaf
pub record IsGiver (gs gs' : List Granule) (number : ℕ) : Type 0 where
  pub granule : Granule
  pub among : Among granule gs
  pub named : granule.number ≡ number
  pub is_leaf : granule.is_leaf ≡ true
  pub is : Gives gs' granule
