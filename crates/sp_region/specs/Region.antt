-- What rectangles leave of a rectangle, point by point.
use Rattle.std.specs.Prelude.{Bool, false, ◌&&◌, not, IsTrue, ◌≤◌, List, Option, Some, None}
use Rattle.std.specs.List.{list_any, count_by}
use Rattle.sp_rect.specs.Plane.{Rectangle, Point, holds}

-- the point lies in one of the rectangles
abbrev pub covered : List Rectangle → Point → Bool
covered rects p = list_any (λ r. holds r p) rects

-- the point is one of the rectangle's, and lies in none of the others
abbrev pub is_left : Rectangle → List Rectangle → Point → Bool
is_left rect others p = holds rect p && not (covered others p)

-- some point of the rectangle lies in none of the others
abbrev pub LeavesAny : Rectangle → List Rectangle → Type 0
LeavesAny rect others = (p : Point) × IsTrue (is_left rect others p)

-- some point is left of one rectangle by its holes, and of another by its own: the two areas overlap
abbrev pub Overlap : Rectangle → List Rectangle → Rectangle → List Rectangle → Type 0
Overlap a holes b others = (p : Point) × IsTrue (is_left a holes p && is_left b others p)

-- some point is left of one rectangle by its holes, and not of another by its own: the first area exceeds the second
abbrev pub Exceeds : Rectangle → List Rectangle → Rectangle → List Rectangle → Type 0
Exceeds a holes b others = (p : Point) × IsTrue (is_left a holes p && not (is_left b others p))

-- no point lies in two of the rectangles
abbrev pub AreDisjoint : List Rectangle → Type 0
AreDisjoint rects = (p : Point) → count_by (λ r. holds r p) rects ≤ 1

-- the point lies in the rectangle, if there is one
abbrev pub held_by : Option Rectangle → Point → Bool
held_by None p = false
held_by (Some r) p = holds r p
