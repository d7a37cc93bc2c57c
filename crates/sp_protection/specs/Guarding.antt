-- What a transaction's locks protect: rectangles from phantoms, and entries from others. After Chakrabarti and
-- Mehrotra, "Dynamic Granular Locking Approach to Phantom Protection in R-Trees", ICDE 1998.
use Rattle.std.specs.Prelude.{◌≡◌, ℕ, true, IsTrue, List}
use Rattle.sp_locks.specs.declared.row.Name.TheVariants.{Granule as OnGranule, Object}
use Rattle.sp_locks.specs.declared.mode.Mode.TheVariants.{IX, S, X}
use Rattle.sp_rect.specs.Plane.{Rectangle, Point, holds}
use Rattle.sp_node.specs.declared.node.Entry.{Entry}
use Rattle.sp_node.specs.Among.{Among}
use Rattle.sp_node.specs.Marks.{is_marked}
use Rattle.sp_granule.specs.Granules.{Granule, Standing, standing, in_granule}
use Rattle.sp_protection.specs.Holding.{Lock, HoldsMode}

-- no record can come into the rectangle or leave it: the transaction holds S or more on every leaf granule that meets it, and each of its points lies in some granule on which the transaction does
pub record Guarded (gs : List Granule) (locks : List Lock) (txn : ℕ) (rect : Rectangle) : Type 0 where
  pub leaves : (g : Granule) (p : Point) → Among g gs → g.is_leaf ≡ true → IsTrue (in_granule g p) → IsTrue (holds rect p) → HoldsMode locks txn (OnGranule g.number) S
  pub points : (p : Point) → IsTrue (holds rect p) → (g : Granule) × Among g gs × IsTrue (in_granule g p) × HoldsMode locks txn (OnGranule g.number) S

-- nobody else can move, read or change the entry: the transaction holds IX or more on its leaf, and X on its object
pub record Owned (gs : List Granule) (locks : List Lock) (txn : ℕ) (e : Standing) : Type 0 where
  pub leaf : Granule
  pub among : Among leaf gs
  pub is_leaf : leaf.is_leaf ≡ true
  pub entry : Among e leaf.entries
  pub intent : HoldsMode locks txn (OnGranule leaf.number) IX
  pub object : HoldsMode locks txn (Object e.id) X

-- the transaction holds S on each granule that meets the rectangle
abbrev pub HoldsMeeting : List Granule → List Lock → ℕ → Rectangle → Type 0
HoldsMeeting gs locks txn rect = (g : Granule) (p : Point) → Among g gs → IsTrue (in_granule g p) → IsTrue (holds rect p) → HoldsMode locks txn (OnGranule g.number) S

-- the two are the same granule: of one number and kind, with the same points
pub record IsSame (g same : Granule) : Type 0 where
  pub number : same.number ≡ g.number
  pub is_leaf : same.is_leaf ≡ g.is_leaf
  pub points : (p : Point) → in_granule same p ≡ in_granule g p

-- each granule of the one list is the same granule of the other
abbrev pub AreAmong : List Granule → List Granule → Type 0
AreAmong gs gs' = (g : Granule) → Among g gs → (same : Granule) × Among same gs' × IsSame g same

-- both have the same granules
abbrev pub AreSame : List Granule → List Granule → Type 0
AreSame gs gs' = AreAmong gs gs' × AreAmong gs' gs

-- each entry with a mark is owned by the transaction that marked it
abbrev pub MarksOwned : List Granule → List Lock → List Entry → Type 0
MarksOwned gs locks es = (txn : ℕ) (e : Entry) → Among e es → is_marked txn e ≡ true → Owned gs locks txn (standing e)
