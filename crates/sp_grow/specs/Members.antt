-- Lists of members, and what an insertion makes of them.
use Rattle.std.specs.Prelude.{ℕ, Bool, true, List, [], ◌∷◌, ◌++◌, map, slice_get, ltb}
use Rattle.std.specs.Option.{option_to_list}
use Rattle.sp_rect.specs.Plane.{Rectangle}
use Rattle.sp_node.specs.declared.node.Child.{Child as ChildOf}
use Rattle.sp_node.specs.declared.node.Node.{Node}
use Rattle.sp_node.specs.declared.node.Node.TheVariants.{Leaf, Inner}
use Rattle.sp_grow.specs.declared.member.Member.{Member}
use Rattle.sp_grow.specs.declared.member.Member.TheVariants.{Entry, Child}
use Rattle.sp_grow.specs.declared.left.Left.{Left}
use Rattle.sp_grow.specs.declared.left.Left.TheVariants.{One, Two}

-- the members at these positions, in the order of the positions
abbrev pub pick : {X : Type 0} → List X → List ℕ → List X
pick xs [] = []
pick xs (i ∷ is) = option_to_list (slice_get xs i) ++ pick xs is

-- the rectangles in a node
abbrev pub rects_in : Node → List Rectangle
rects_in (Leaf es) = map (λ e. e.rect) es
rects_in (Inner cs) = map (λ c. c.rect) cs

-- a node with the members at these positions
abbrev pub pick_node : Node → List ℕ → Node
pick_node (Leaf es) is = Leaf (pick es is)
pick_node (Inner cs) is = Inner (pick cs is)

-- what is left of a child in its place; the second node of a split stands at the end
abbrev pub put_left : List ChildOf → Left → List ChildOf → List ChildOf
put_left front (One a) back = front ++ a ∷ back
put_left front (Two a b) back = front ++ a ∷ (back ++ b ∷ [])

abbrev pub rect_of_member : Member → Rectangle
rect_of_member (Entry e) = e.rect
rect_of_member (Child c) = c.rect

-- an entry goes below each inner node, and a child where steps are left
abbrev pub goes_below : Member → ℕ → Bool
goes_below (Entry e) steps = true
goes_below (Child c) steps = ltb 0 steps

-- the member is one of such a node's
abbrev pub Belongs : Node → Member → Type 0
Belongs (Leaf es) (Entry e) = Unit {0}
Belongs (Leaf es) (Child c) = ⊥
Belongs (Inner cs) (Entry e) = ⊥
Belongs (Inner cs) (Child c) = Unit {0}

-- the node with the member at its end
abbrev pub node_with : Node → Member → Node
node_with (Leaf es) (Entry e) = Leaf (es ++ e ∷ [])
node_with (Leaf es) (Child c) = Leaf es
node_with (Inner cs) (Entry e) = Inner cs
node_with (Inner cs) (Child c) = Inner (cs ++ c ∷ [])
