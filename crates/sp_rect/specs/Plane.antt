-- Points and rectangles of the lattice. A rectangle stands for the set of its points; space is the
-- lattice points whose coordinates are from -2^30 to 2^30 - 1.
use Rattle.std.specs.Prelude.{Bool, ◌&&◌, ℤ, pos, negsuc, int_le, ◌≤ℤ◌, ◌-ℤ◌, ◌*ℤ◌, refl, Option, Some, None, if◌then◌else◌}
use Rattle.std.specs.Int.{int_min, int_max}
use Rattle.std.specs.Int.Signed.{le_z}
use Rattle.std.specs.Coded.{Coded, code_by, coded×, coded_ℤ}

-- a point
pub record Point : Type 0 where
  pub x : ℤ
  pub y : ℤ

abbrev pub point_code : Coded Point
point_code = code_by (ℤ × ℤ) (coded× coded_ℤ coded_ℤ) (λ p. (p.x, p.y)) (λ q. record { x = q.0; y = q.1 }) (λ _. refl)

-- a closed rectangle, by its lower left and its upper right corner
pub record Rectangle : Type 0 where
  pub x1 : ℤ
  pub y1 : ℤ
  pub x2 : ℤ
  pub y2 : ℤ

abbrev pub rectangle_code : Coded Rectangle
rectangle_code =
    code_by ((ℤ × ℤ) × (ℤ × ℤ)) (coded× (coded× coded_ℤ coded_ℤ) (coded× coded_ℤ coded_ℤ)) (λ r. ((r.x1, r.y1), (r.x2, r.y2)))
    (λ q. record { x1 = q.0.0; y1 = q.0.1; x2 = q.1.0; y2 = q.1.1 }) (λ _. refl)

abbrev pub corners : ℤ → ℤ → ℤ → ℤ → Rectangle
corners x1 y1 x2 y2 = record { x1 = x1; y1 = y1; x2 = x2; y2 = y2 }

-- the least and the greatest coordinate of space
abbrev pub lowest : ℤ
lowest = negsuc 1073741823

abbrev pub highest : ℤ
highest = pos 1073741823

-- all of space
abbrev pub whole : Rectangle
whole = record { x1 = lowest; y1 = lowest; x2 = highest; y2 = highest }

-- the corners are not crossed, and lie in space
pub record IsRectangle (r : Rectangle) : Type 0 where
  pub left : lowest ≤ℤ r.x1
  pub across : r.x1 ≤ℤ r.x2
  pub right : r.x2 ≤ℤ highest
  pub lower : lowest ≤ℤ r.y1
  pub along : r.y1 ≤ℤ r.y2
  pub upper : r.y2 ≤ℤ highest

-- the same as tests: a coordinate of space, an interval in space, and a rectangle in space
unfoldable pub is_coordinate : ℤ → Bool
is_coordinate x = int_le lowest x && int_le x highest

unfoldable pub is_interval : ℤ → ℤ → Bool
is_interval a b = int_le lowest a && (int_le a b && int_le b highest)

abbrev pub is_rectangle : Rectangle → Bool
is_rectangle r = is_interval r.x1 r.x2 && is_interval r.y1 r.y2

-- the rectangle with these corners, if they are those of one in space
abbrev pub made_rectangle : ℤ → ℤ → ℤ → ℤ → Option Rectangle
made_rectangle a b c d = if is_rectangle (corners a b c d) then Some (corners a b c d) else None

-- the rectangle has the point
pub record Holds (r : Rectangle) (p : Point) : Type 0 where
  pub from_left : r.x1 ≤ℤ p.x
  pub to_right : p.x ≤ℤ r.x2
  pub from_below : r.y1 ≤ℤ p.y
  pub to_above : p.y ≤ℤ r.y2

-- the two share a point
abbrev pub Meet : Rectangle → Rectangle → Type 0
Meet a b = (p : Point) × (Holds a p × Holds b p)

-- each point of b is one of a
abbrev pub Encloses : Rectangle → Rectangle → Type 0
Encloses a b = (p : Point) → Holds b p → Holds a p

-- The same by corners, as tests.
abbrev pub meets : Rectangle → Rectangle → Bool
meets a b = le_z a.x1 b.x2 && le_z b.x1 a.x2 && le_z a.y1 b.y2 && le_z b.y1 a.y2

abbrev pub encloses : Rectangle → Rectangle → Bool
encloses a b = le_z a.x1 b.x1 && le_z b.x2 a.x2 && le_z a.y1 b.y1 && le_z b.y2 a.y2

abbrev pub holds : Rectangle → Point → Bool
holds r p = le_z r.x1 p.x && le_z p.x r.x2 && le_z r.y1 p.y && le_z p.y r.y2

abbrev pub point : ℤ → ℤ → Point
point x y = record { x = x; y = y }

-- the smallest rectangle that has all points of both
abbrev pub bound : Rectangle → Rectangle → Rectangle
bound a b = record { x1 = int_min a.x1 b.x1; y1 = int_min a.y1 b.y1; x2 = int_max a.x2 b.x2; y2 = int_max a.y2 b.y2 }

abbrev pub area : Rectangle → ℤ
area r = (r.x2 -ℤ r.x1) *ℤ (r.y2 -ℤ r.y1)

-- the area of the bound less the area of a
abbrev pub growth : Rectangle → Rectangle → ℤ
growth a b = area (bound a b) -ℤ area a
