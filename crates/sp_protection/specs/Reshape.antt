-- When needs on granules license the change from one tree to another.
use Rattle.std.specs.Prelude.{◌≡◌, ◌≢◌, ◌⊎◌, ℕ, true, false, List, Option, Some}
use Rattle.sp_locks.specs.declared.mode.Mode.TheVariants.{IX, SIX}
use Rattle.sp_rect.specs.Plane.{Point}
use Rattle.sp_node.specs.Among.{Among}
use Rattle.sp_granule.specs.Granules.{Granule, Standing, in_granule}
use Rattle.sp_protection.specs.Holding.{GranuleNeed, has}

-- some granule has the number
abbrev pub HasNumber : List Granule → ℕ → Type 0
HasNumber gs number = (g : Granule) × Among g gs × (g.number ≡ number)

-- the granule of its number lacks a point that it has
pub record Loses (gs' : List Granule) (g : Granule) : Type 0 where
  pub after : Granule
  pub among : Among after gs'
  pub same : after.number ≡ g.number
  pub point : Point
  pub had : in_granule g point ≡ true
  pub lost : in_granule after point ≡ false

-- its node is gone
abbrev pub IsGone : List Granule → Granule → Type 0
IsGone gs' g = (after : Granule) → Among after gs' → after.number ≢ g.number

-- the point is new to the leaf of that number
abbrev pub IsGained : List Granule → Granule → Point → Type 0
IsGained gs after p = (in_granule after p ≡ true) × ((g : Granule) → Among g gs → g.is_leaf ≡ true → g.number ≡ after.number → in_granule g p ≡ false)

-- an entry of the leaf stands in another leaf
pub record Gives (gs' : List Granule) (g : Granule) : Type 0 where
  pub entry : Standing
  pub stood : Among entry g.entries
  pub after : Granule
  pub among : Among after gs'
  pub is_leaf : after.is_leaf ≡ true
  pub stands : Among entry after.entries
  pub other : after.number ≢ g.number

-- The needs license the change. What loses points or is gone has IX; a point that a leaf gains lies in a leaf that has IX, or all that it lay in has IX; a leaf out of which an entry moves to another has SIX.
pub record Licensed (gs gs' : List Granule) (needs : List GranuleNeed) : Type 0 where
  pub loses : (g : Granule) → Among g gs → Loses gs' g → has needs g.number IX ≡ true
  pub gone : (g : Granule) → Among g gs → IsGone gs' g → has needs g.number IX ≡ true
  pub gains : (after : Granule) (p : Point) → Among after gs' → after.is_leaf ≡ true → IsGained gs after p →
      ((g : Granule) × Among g gs × (g.is_leaf ≡ true) × (in_granule g p ≡ true) × (has needs g.number IX ≡ true))
      ⊎ ((g : Granule) → Among g gs → in_granule g p ≡ true → has needs g.number IX ≡ true)
  pub gives : (g : Granule) → Among g gs → g.is_leaf ≡ true → Gives gs' g → has needs g.number SIX ≡ true

-- a number that both have names the same entry
abbrev pub SameStandings : List Granule → List Granule → Type 0
SameStandings gs gs' = (g after : Granule) (e e' : Standing) → Among g gs → Among e g.entries → Among after gs' → Among e' after.entries → e'.number ≡ e.number → e' ≡ e

-- some leaf has an entry of the number
pub record StillHas (gs' : List Granule) (number : ℕ) : Type 0 where
  pub after : Granule
  pub among : Among after gs'
  pub is_leaf : after.is_leaf ≡ true
  pub entry : Standing
  pub stands : Among entry after.entries
  pub same : entry.number ≡ number

-- a leaf that loses a point, is gone, gives an entry away, or was chosen for the new entry
abbrev pub IsSource : List Granule → Option ℕ → Granule → Type 0
IsSource gs' chosen g = (g.is_leaf ≡ true) × (Loses gs' g ⊎ (IsGone gs' g ⊎ (Gives gs' g ⊎ (chosen ≡ Some g.number))))

-- the granule has a point that a leaf gains, and that lies in no such leaf
pub record IsReached (gs gs' : List Granule) (chosen : Option ℕ) (g : Granule) : Type 0 where
  pub after : Granule
  pub among : Among after gs'
  pub is_leaf : after.is_leaf ≡ true
  pub point : Point
  pub gained : IsGained gs after point
  pub had : in_granule g point ≡ true
  pub no_source : (l : Granule) → Among l gs → in_granule l point ≡ true → IsSource gs' chosen l → ⊥

-- the needs have what the change wants for the moment
pub record MeetsShort (gs gs' : List Granule) (chosen : Option ℕ) (needs : List GranuleNeed) : Type 0 where
  pub loses : (g : Granule) → Among g gs → Loses gs' g → has needs g.number IX ≡ true
  pub gone : (g : Granule) → Among g gs → IsGone gs' g → has needs g.number IX ≡ true
  pub reached : (g : Granule) → Among g gs → IsReached gs gs' chosen g → has needs g.number IX ≡ true
  pub gives : (g : Granule) → Among g gs → g.is_leaf ≡ true → Gives gs' g → has needs g.number SIX ≡ true

-- the new entry stands in the chosen leaf, or the chosen leaf gives an entry away
abbrev pub EntersOrGives : List Granule → List Granule → ℕ → Standing → Type 0
EntersOrGives gs gs' chosen e =
    ((after : Granule) × Among after gs' × (after.is_leaf ≡ true) × Among e after.entries × (after.number ≡ chosen))
    ⊎ ((g : Granule) × Among g gs × (g.is_leaf ≡ true) × (g.number ≡ chosen) × Gives gs' g)

-- the needs have IX on the leaf in which the new entry stands, where that leaf is no new one
abbrev pub MeetsEntry : List Granule → List Granule → Standing → List GranuleNeed → Type 0
MeetsEntry gs gs' e needs = (after : Granule) → Among after gs' → after.is_leaf ≡ true → Among e after.entries → HasNumber gs after.number → has needs after.number IX ≡ true
