-- What an operation needs: commit locks on granules and objects, and for a change of the tree short locks on
-- granules. Each rule is told alone; the need on a name is the least mode that covers all that the rules want there.
use Rattle.std.specs.Prelude.{◌≡◌, ◌≢◌, ℕ, ◌<◌, true, IsTrue, List, [], ◌∷◌, Option}
use Rattle.sp_locks.specs.declared.mode.Mode.{Mode}
use Rattle.sp_locks.specs.declared.mode.Mode.TheVariants.{IX, S, SIX, X}
use Rattle.sp_locks.specs.declared.row.Name.{Name}
use Rattle.sp_locks.specs.declared.row.Name.TheVariants.{Granule as OnGranule, Object}
use Rattle.sp_locks.specs.declared.row.Duration.{Duration}
use Rattle.sp_locks.specs.declared.row.Duration.TheVariants.{Commit, Short}
use Rattle.sp_locks.specs.declared.needs.Need.{Need}
use Rattle.sp_locks.specs.Modes.{covers}
use Rattle.sp_rect.specs.Plane.{Rectangle, Point, holds}
use Rattle.sp_rect.specs.declared.operation.Op.{Op}
use Rattle.sp_rect.specs.declared.operation.Op.TheVariants.{Drop, Set, Find, Fill, Clear}
use Rattle.sp_node.specs.declared.node.Entry.{Entry}
use Rattle.sp_node.specs.Among.{Among}
use Rattle.sp_granule.specs.Granules.{Granule, Standing, standing, in_granule}
use Rattle.sp_txn.specs.Visible.{is_visible}
use Rattle.sp_protection.specs.Guarding.{AreSame}
use Rattle.sp_protection.specs.Reshape.{HasNumber, Loses, IsGone, IsReached, Gives}

-- the granule has a point of the rectangle
abbrev pub GranuleMeets : Granule → Rectangle → Type 0
GranuleMeets g rect = (p : Point) × IsTrue (in_granule g p) × IsTrue (holds rect p)

-- the entry has a point of the rectangle
abbrev pub EntryMeets : Entry → Rectangle → Type 0
EntryMeets e rect = (p : Point) × IsTrue (holds e.rect p) × IsTrue (holds rect p)

-- the operation marks the entries of an area
abbrev pub MarksArea : Op → Rectangle → Type 0
MarksArea (Fill rect value) q = rect ≡ q
MarksArea (Clear rect) q = rect ≡ q
MarksArea op q = ⊥

-- the operation marks the entry of an id
abbrev pub MarksId : Op → ℕ → Type 0
MarksId (Drop id) i = id ≡ i
MarksId (Set id value) i = id ≡ i
MarksId op i = ⊥

-- the entry stands in the leaf
abbrev pub StandsIn : Entry → Granule → Type 0
StandsIn e g = (g.is_leaf ≡ true) × Among (standing e) g.entries

-- the leaf has an entry whose number no leaf of the other list has
pub record HasNewEntry (gs : List Granule) (after : Granule) : Type 0 where
  pub entry : Standing
  pub stands : Among entry after.entries
  pub is_leaf : after.is_leaf ≡ true
  pub new : (g : Granule) (e : Standing) → Among g gs → Among e g.entries → e.number ≢ entry.number

-- one rule of the commit needs wants the mode on the name: of an operation that leaves the tree as it is
pub data StayWant (gs : List Granule) (es : List Entry) (txn : ℕ) (op : Op) : Name → Mode → Type 0 where
  -- a search wants S on each granule that meets its rectangle
  Finds : (rect : Rectangle) (g : Granule) → op ≡ Find rect → Among g gs → GranuleMeets g rect → StayWant gs es txn op (OnGranule g.number) S
  -- a drop or a set wants IX on the leaf of the entry that it marks
  MarksOne : (id : ℕ) (e : Entry) (g : Granule) → MarksId op id → Among e es → is_visible txn e ≡ true → e.id ≡ id → Among g gs → StandsIn e g → StayWant gs es txn op (OnGranule g.number) IX
  -- a fill or a clear wants SIX on each leaf with an entry that meets its rectangle, whatever its marks,
  MarksLeaf : (rect : Rectangle) (e : Entry) (g : Granule) → MarksArea op rect → Among e es → EntryMeets e rect → Among g gs → StandsIn e g → StayWant gs es txn op (OnGranule g.number) SIX
  -- S on each granule that meets it,
  MarksRegion : (rect : Rectangle) (g : Granule) → MarksArea op rect → Among g gs → GranuleMeets g rect → StayWant gs es txn op (OnGranule g.number) S
  -- and X on the object of each entry that meets it
  MarksObject : (rect : Rectangle) (e : Entry) → MarksArea op rect → Among e es → EntryMeets e rect → StayWant gs es txn op (Object e.id) X

-- one rule wants the mode on the name: of a put that adds an entry, by the granules before and after it
pub data PutWant (gs gs' : List Granule) (searches : List Rectangle) : Name → Mode → Type 0 where
  -- IX on the leaf in which the new entry stands, where that is no new one
  Enters : (after : Granule) → Among after gs' → HasNewEntry gs after → HasNumber gs after.number → PutWant gs gs' searches (OnGranule after.number) IX
  -- where any granule changes, S on each that is no new one and meets a rectangle that was searched
  KeepsSearched : (rect : Rectangle) (after : Granule) → (AreSame gs gs' → ⊥) → Among rect searches → Among after gs' → GranuleMeets after rect → HasNumber gs after.number → PutWant gs gs' searches (OnGranule after.number) S

-- one rule of the short needs wants the mode on the granule of the number
pub data ShortWant (gs gs' : List Granule) (chosen : Option ℕ) : Name → Mode → Type 0 where
  -- IX on what loses a point or is gone,
  LosesPoint : (g : Granule) → Among g gs → Loses gs' g → ShortWant gs gs' chosen (OnGranule g.number) IX
  Goes : (g : Granule) → Among g gs → IsGone gs' g → ShortWant gs gs' chosen (OnGranule g.number) IX
  -- on what has a point that a leaf gains from none of the leaves that are locked anyway,
  Reached : (g : Granule) → Among g gs → IsReached gs gs' chosen g → ShortWant gs gs' chosen (OnGranule g.number) IX
  -- and SIX on a leaf out of which an entry moves to another
  GivesAway : (g : Granule) → Among g gs → g.is_leaf ≡ true → Gives gs' g → ShortWant gs gs' chosen (OnGranule g.number) SIX

-- the mode is the least that covers all that the rule wants on the name, which is something
pub record IsJoined (Want : Name → Mode → Type 0) (name : Name) (mode : Mode) : Type 0 where
  pub some : (m : Mode) × Want name m
  pub enough : (m : Mode) → Want name m → covers mode m ≡ true
  pub least : (m : Mode) → ((n : Mode) → Want name n → covers m n ≡ true) → covers m mode ≡ true

-- the order in which needs are asked: commit locks on granules by number, commit locks on objects by id, short locks by number
abbrev pub by_kind : Duration → Name → Duration → Name → Type 0
by_kind Commit (OnGranule m) Commit (OnGranule n) = m < n
by_kind Commit (OnGranule m) Commit (Object n) = Unit {0}
by_kind Commit (Object m) Commit (Object n) = m < n
by_kind Commit a Short b = Unit {0}
by_kind Short (OnGranule m) Short (OnGranule n) = m < n
by_kind d a e b = ⊥

abbrev pub Precedes : Need → Need → Type 0
Precedes a b = by_kind a.duration a.name b.duration b.name

-- each stands before all that follow it
abbrev pub AreInOrder : List Need → Type 0
AreInOrder [] = Unit {0}
AreInOrder (a ∷ rest) = ((b : Need) → Among b rest → Precedes a b) × AreInOrder rest

-- the needs are those of the rule, one a name, for that long, in order
pub record AreNeedsOf (Want : Name → Mode → Type 0) (duration : Duration) (needs : List Need) : Type 0 where
  pub joined : (need : Need) → Among need needs → IsJoined Want need.name need.mode × (need.duration ≡ duration)
  pub all : (name : Name) (mode : Mode) → IsJoined Want name mode → (need : Need) × Among need needs × (need.name ≡ name) × (need.mode ≡ mode)
  pub in_order : AreInOrder needs
