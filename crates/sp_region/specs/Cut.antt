-- Cutting a rectangle by another, and the pieces that wait to be cut.
use Rattle.std.specs.Prelude.{◌≡◌, ℕ, zero, suc, ◌+◌, ◌*◌, ◌-◌, ◌<◌, ◌≤◌, Bool, ◌&&◌, not, cond, List, [], ◌∷◌, ◌++◌, length, map, drop, Option, Some, None}
use Rattle.std.specs.List.{sum_by, count_by}
use Rattle.std.specs.Int.Signed.{le_z}
use Rattle.sp_rect.specs.Plane.{Rectangle, Point, holds}
use Rattle.sp_region.specs.Region.{is_left}
use Rattle.sp_region.specs.declared.pieces.Piece.{Piece}

-- the point lies left of the rectangle, or right of it
abbrev pub left_of : Rectangle → Point → Bool
left_of o p = not (le_z o.x1 p.x)

abbrev pub right_of : Rectangle → Point → Bool
right_of o p = not (le_z p.x o.x2)

-- the point lies neither left nor right of the rectangle, and is below it, or above it
abbrev pub beneath : Rectangle → Point → Bool
beneath o p = le_z o.x1 p.x && le_z p.x o.x2 && not (le_z o.y1 p.y)

abbrev pub above : Rectangle → Point → Bool
above o p = le_z o.x1 p.x && le_z p.x o.x2 && not (le_z p.y o.y2)

-- one where the test passes
abbrev pub one : Bool → ℕ
one b = cond b 1 0

abbrev pub piece : Rectangle → ℕ → Piece
piece rect next = record { rect = rect; next = next }

-- a strip, if there is one, as a piece that waits for the others from that place on
abbrev pub pieces_of : Option Rectangle → ℕ → List Piece
pieces_of None next = []
pieces_of (Some rect) next = piece rect next ∷ []

-- in how many pieces the point is left by the others for which they wait
unfoldable pub times_left : List Rectangle → List Piece → Point → ℕ
times_left others pieces p = count_by (λ s. is_left s.rect (drop s.next others) p) pieces

-- some point is left in one of the pieces
abbrev pub IsAnyLeft : List Rectangle → List Piece → Type 0
IsAnyLeft others pieces = (p : Point) × (0 < times_left others pieces p)

-- at most 4 strips were added, which wait for the others from that place on, and each point of the rectangle that
-- is not the other's lies in one of them
pub record IsCut (rect other : Rectangle) (next : ℕ) (old new : List Piece) : Type 0 where
  pub strips : List Rectangle
  pub added : new ≡ old ++ map (λ s. piece s next) strips
  pub few : length strips ≤ 4
  pub points : (p : Point) → count_by (λ s. holds s p) strips ≡ one (holds rect p && not (holds other p))

-- pieces were added that wait for all the others, and each has the points that the rectangle shares with one of these
abbrev pub IsShared : Rectangle → List Rectangle → List Piece → List Piece → Type 0
IsShared rect others old new = (holes : List Rectangle) → (p : Point) → times_left holes new p ≡ times_left holes old p + cond (is_left rect holes p) (count_by (λ r. holds r p) others) 0

-- more cuts than a piece can still get, by the number of others for which it waits
abbrev pub weight : ℕ → ℕ
weight zero = 1
weight (suc n) = suc (4 * weight n)

unfoldable pub burden : List Rectangle → List Piece → ℕ
burden others pieces = sum_by (λ s. weight (length others - s.next)) pieces
