-- The quadratic split of Guttman, "R-Trees", SIGMOD 1984, as a relation between rectangles by position and
-- two groups of positions: there is an order of all positions that begins with the two seeds, in which each
-- later position is the next one for the groups formed by those before it.
use Rattle.std.specs.Prelude.{◌≡◌, ℕ, ◌+◌, ◌-◌, ◌<◌, ◌≤◌, ◌⊎◌, Bool, true, false, ℤ, ◌-ℤ◌, ◌≤ℤ◌, ◌<ℤ◌, List, [], ◌∷◌, ◌++◌, length, fold, nat_eq, slice_index_or}
use Rattle.std.specs.List.{list_any}
use Rattle.std.specs.Int.{int_max}
use Rattle.std.specs.List.Sorted.{IsPermutation, IsStrictlyIncreasing}
use Rattle.sp_rect.specs.Plane.{Rectangle, whole, bound, area, growth}

-- one pair stands before another, by its first position and then by its second
abbrev pub IsBefore : ℕ → ℕ → ℕ → ℕ → Type 0
IsBefore a b i j = (a < i) ⊎ ((a ≡ i) × (b < j))

abbrev pub is_among : List ℕ → ℕ → Bool
is_among ps p = list_any (nat_eq p) ps

-- the difference of two growths, without sign
abbrev pub apart : ℤ → ℤ → ℤ
apart x y = int_max (x -ℤ y) (y -ℤ x)

-- the first of two groups takes a rectangle: it grows less, or else is smaller, or else has no more members
abbrev pub FirstTakes : Rectangle → Rectangle → ℕ → ℕ → Rectangle → Type 0
FirstTakes a b m n r = (growth a r <ℤ growth b r) ⊎ ((growth a r ≡ growth b r) × ((area a <ℤ area b) ⊎ ((area a ≡ area b) × (m ≤ n))))

abbrev pub SecondTakes : Rectangle → Rectangle → ℕ → ℕ → Rectangle → Type 0
SecondTakes a b m n r = (growth b r <ℤ growth a r) ⊎ ((growth a r ≡ growth b r) × ((area b <ℤ area a) ⊎ ((area a ≡ area b) × (n < m))))

module _ (rects : List Rectangle) where
  abbrev pub rect_at : ℕ → Rectangle
  rect_at i = slice_index_or rects i whole

  -- how much the bound of two covers beyond them
  abbrev pub waste : ℕ → ℕ → ℤ
  waste i j = area (bound (rect_at i) (rect_at j)) -ℤ area (rect_at i) -ℤ area (rect_at j)

  -- the first pair that wastes most
  pub record AreSeeds (i j : ℕ) : Type 0 where
    pub ordered : i < j
    pub within : j < length rects
    pub most : (a b : ℕ) → a < b → b < length rects → waste a b ≤ℤ waste i j
    pub first : (a b : ℕ) → a < b → b < length rects → IsBefore a b i j → waste a b <ℤ waste i j

  -- the smallest rectangle that encloses a group
  abbrev pub group_bound : List ℕ → Rectangle
  group_bound [] = whole
  group_bound (p ∷ ps) = fold (λ r i. bound r (rect_at i)) (rect_at p) ps

  -- the position is in no group yet
  pub record IsFree (first second : List ℕ) (p : ℕ) : Type 0 where
    pub within : p < length rects
    pub not_first : is_among first p ≡ false
    pub not_second : is_among second p ≡ false

  -- how far apart the growths of two bounds by a rectangle are
  abbrev pub preference : Rectangle → Rectangle → ℕ → ℤ
  preference a b p = apart (growth a (rect_at p)) (growth b (rect_at p))

  -- of the positions that are in no group, the first one with the greatest difference
  pub record IsNext (first second : List ℕ) (p : ℕ) : Type 0 where
    pub most : (q : ℕ) → IsFree first second q → preference (group_bound first) (group_bound second) q ≤ℤ preference (group_bound first) (group_bound second) p
    pub least : (q : ℕ) → IsFree first second q → q < p → preference (group_bound first) (group_bound second) q <ℤ preference (group_bound first) (group_bound second) p

  module _ (min : ℕ) where
    -- how many positions are in no group
    abbrev pub rest : List ℕ → List ℕ → ℕ
    rest first second = length rects - (length first + length second)

    -- no group needs all that remain
    abbrev pub IsOpen : List ℕ → List ℕ → Type 0
    IsOpen first second = ¬ (length first + rest first second ≡ min) × ¬ (length second + rest first second ≡ min)

    -- the position is the one that goes to the first group (true) or to the second (false)
    abbrev pub Goes : List ℕ → List ℕ → ℕ → Bool → Type 0
    Goes first second p true =
        (length first + rest first second ≡ min)
        ⊎ (IsOpen first second × IsNext first second p × FirstTakes (group_bound first) (group_bound second) (length first) (length second) (rect_at p))
    Goes first second p false =
        (¬ (length first + rest first second ≡ min) × (length second + rest first second ≡ min))
        ⊎ (IsOpen first second × IsNext first second p × SecondTakes (group_bound first) (group_bound second) (length first) (length second) (rect_at p))

    -- the groups that an order of positions forms, each group in that order
    pub data Formed : List ℕ → List ℕ → Type 0 where
      seeded : (i j : ℕ) → AreSeeds i j → Formed (i ∷ []) (j ∷ [])
      to_first : (first second : List ℕ) (p : ℕ) → Formed first second → IsFree first second p → Goes first second p true → Formed (first ++ p ∷ []) second
      to_second : (first second : List ℕ) (p : ℕ) → Formed first second → IsFree first second p → Goes first second p false → Formed first (second ++ p ∷ [])

    -- two ascending groups of all positions
    pub record Splits (first second : List ℕ) : Type 0 where
      pub in_order : List ℕ
      pub in_order' : List ℕ
      pub formed : Formed in_order in_order'
      pub all : length in_order + length in_order' ≡ length rects
      pub same : IsPermutation in_order first
      pub same' : IsPermutation in_order' second
      pub ascending : IsStrictlyIncreasing first
      pub ascending' : IsStrictlyIncreasing second
