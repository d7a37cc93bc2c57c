-- What an operation needs in a kernel, and what a change of the tree leaves.
use Rattle.std.specs.Prelude.{◌≡◌, ℕ, Bool, true, false, ◌&&◌, not, List, [], ◌++◌, filter, Option, Some, None}
use Rattle.std.specs.List.{list_any}
use Rattle.sp_list.specs.Emptiness.{is_empty}
use Rattle.sp_rect.specs.declared.record.Record.{Record}
use Rattle.sp_rect.specs.declared.operation.Op.{Op}
use Rattle.sp_rect.specs.declared.operation.Op.TheVariants.{Put, Drop, Set, Get, Find, Fill, Clear}
use Rattle.sp_rect.specs.Plane.{IsRectangle, Rectangle}
use Rattle.sp_rect.specs.Store.{Id, Area, part_of, within}
use Rattle.sp_locks.specs.declared.mode.Mode.{Mode}
use Rattle.sp_locks.specs.declared.mode.Mode.TheVariants.{IX, S, X}
use Rattle.sp_locks.specs.declared.row.Name.{Name}
use Rattle.sp_locks.specs.declared.row.Name.TheVariants.{Granule as OnGranule, Object}
use Rattle.sp_locks.specs.declared.row.Row.{Row}
use Rattle.sp_locks.specs.declared.row.Duration.TheVariants.{Commit, Short}
use Rattle.sp_locks.specs.declared.needs.Need.{Need}
use Rattle.sp_locks.specs.Modes.{covers}
use Rattle.sp_locks.specs.Rows.{is_lock_of, same_name}
use Rattle.sp_node.specs.declared.node.Entry.{Entry}
use Rattle.sp_node.specs.Among.{Among}
use Rattle.sp_node.specs.Look.{IsAscending}
use Rattle.sp_node.specs.Marks.{is_marked}
use Rattle.sp_node.specs.Table.{Table, IsValid, entries_of}
use Rattle.sp_grow.specs.Chosen.{ReachesOf}
use Rattle.sp_grow.specs.Grown.{IsGrown}
use Rattle.sp_granule.specs.Granules.{Granule, granules}
use Rattle.sp_txn.specs.Visible.{view}
use Rattle.sp_protection.specs.Effects.{fresh}
use Rattle.sp_protection.specs.Reshape.{HasNumber}
use Rattle.sp_protection.specs.Needs.{StayWant, PutWant, ShortWant, AreNeedsOf, StandsIn, GranuleMeets}
use Rattle.sp_model.specs.declared.session.Session.{Session}
use Rattle.sp_model.specs.State.{Kernel, entries_in}

-- the lock that an operation asks on its object before it plans
abbrev pub object_of : Op → Option (Name × Mode)
object_of (Put r) = Some (Object r.id, X)
object_of (Drop id) = Some (Object id, X)
object_of (Set id value) = Some (Object id, X)
object_of (Get id) = Some (Object id, S)
object_of (Find rect) = None
object_of (Fill rect value) = None
object_of (Clear rect) = None

-- the area that an operation looks at, where it does, is a rectangle in space
abbrev pub HasRectangle : Op → Type 0
HasRectangle op = (rect : Rectangle) → part_of op ≡ Area rect → IsRectangle rect

-- the operation is a put that finds no record of its id: it adds an entry
abbrev pub adds : Op → List Record → Bool
adds (Put r) records = is_empty (within (Id r.id) records)
adds op records = false

abbrev pub is_adding : Kernel → Session → Op → Bool
is_adding k x op = adds op (view (entries_in k) x.txn.number)

-- the tree after the insertion of an entry; there is one
pub record IsInserted (t : Table) (e : Entry) (t' : Table) : Type 0 where
  pub grown : IsGrown t e t'
  pub valid : IsValid t'
  pub ascending : IsAscending t'.nodes
  -- a number that both have names the same entry
  pub same : (f g : Entry) → Among f (entries_of t) → Among g (entries_of t') → f.number ≡ g.number → f ≡ g

-- the tree that a put leaves, and the leaf that is chosen for its entry
pub record Inserts (k : Kernel) (x : Session) (r : Record) (after : Table) (chosen : ℕ) : Type 0 where
  pub inserted : IsInserted k.tree (fresh x.txn.number k.next_entry r) after
  pub reaches : ReachesOf k.tree r.rect chosen

-- the commit needs and the short needs of an operation in the present tree
pub data HasNeeds (k : Kernel) (x : Session) : Op → List Need → List Need → Type 0 where
  Stays : (op : Op) (commit : List Need) → is_adding k x op ≡ false → AreNeedsOf (StayWant (granules k.tree) (entries_in k) x.txn.number op) Commit commit → HasNeeds k x op commit []
  Adds : (r : Record) (after : Table) (chosen : ℕ) (commit short : List Need) → is_adding k x (Put r) ≡ true → Inserts k x r after chosen
      → AreNeedsOf (PutWant (granules k.tree) (granules after) x.txn.searches) Commit commit
      → AreNeedsOf (ShortWant (granules k.tree) (granules after) (Some chosen)) Short short
      → HasNeeds k x (Put r) commit short

-- a lock that the session holds to its end covers the need
abbrev pub is_held : List Row → ℕ → Need → Bool
is_held rows s need = list_any (λ row. is_lock_of s Commit row && (same_name row.name need.name && covers row.mode need.mode)) rows

-- one of the needs covers it
abbrev pub is_covered : List Need → Need → Bool
is_covered needs need = list_any (λ other. same_name other.name need.name && covers other.mode need.mode) needs

-- what is left to ask: the needs that no held lock covers, but for short ones that a commit need covers
abbrev pub left_to_ask : List Row → ℕ → List Need → List Need → List Need
left_to_ask rows s commit short = filter (λ need. not (is_held rows s need)) (commit ++ filter (λ need. not (is_covered commit need)) short)

-- one rule of the gifts wants the mode on a granule with a new number: IX on a leaf in which an entry with the transaction's mark stands, and S on what meets a rectangle that it searched
pub data GiftWant (gs gs' : List Granule) (es : List Entry) (txn : ℕ) (searches : List Rectangle) : Name → Mode → Type 0 where
  OwnLeaf : (e : Entry) (after : Granule) → Among e es → is_marked txn e ≡ true → Among after gs' → StandsIn e after → (HasNumber gs after.number → ⊥) → GiftWant gs gs' es txn searches (OnGranule after.number) IX
  OwnSearch : (rect : Rectangle) (after : Granule) → Among rect searches → Among after gs' → GranuleMeets after rect → (HasNumber gs after.number → ⊥) → GiftWant gs gs' es txn searches (OnGranule after.number) S

-- the locks that a put gets on new granules
abbrev pub AreGiftsOf : Kernel → Session → Table → List Need → Type 0
AreGiftsOf k x after gifts = AreNeedsOf (GiftWant (granules k.tree) (granules after) (entries_of after) x.txn.number x.txn.searches) Commit gifts
