-- A put: the trees before and after it, the needs and the locks.
use Rattle.std.specs.Prelude.{◌≡◌, ℕ, List, ◌++◌, Some, None}
use Rattle.sp_rect.specs.Plane.{Rectangle}
use Rattle.sp_locks.specs.declared.mode.Mode.TheVariants.{X}
use Rattle.sp_locks.specs.declared.row.Name.TheVariants.{Object}
use Rattle.sp_locks.specs.declared.row.Duration.TheVariants.{Commit, Short}
use Rattle.sp_locks.specs.declared.needs.Need.{Need}
use Rattle.sp_node.specs.declared.node.Entry.{Entry}
use Rattle.sp_node.specs.Among.{Among}
use Rattle.sp_node.specs.Index.{leaf_with}
use Rattle.sp_node.specs.Plan.{SameEntries}
use Rattle.sp_node.specs.Table.{Table, IsValid, entries_of}
use Rattle.sp_granule.specs.Granules.{standing, granules}
use Rattle.sp_grow.specs.Chosen.{ReachesOf}
use Rattle.sp_grow.specs.Grown.{IsGrown}
use Rattle.sp_protection.specs.Holding.{Lock, HoldsMode, AllCompatible, AreBelow, AreGifts}
use Rattle.sp_protection.specs.Needs.{PutWant, ShortWant, AreNeedsOf}
use Rattle.sp_protection.specs.Asking.{HoldsEach, AreAskedOrHeld, HoldsGifts}

-- the second tree is the first with the entry, whose number is new, and the leaf was chosen for it
pub record IsPutInto (t t' : Table) (e : Entry) (leaf : ℕ) : Type 0 where
  pub valid : IsValid t
  pub valid_after : IsValid t'
  pub same_entries : SameEntries (entries_of t) (entries_of t')
  pub grown : IsGrown t e t'
  pub new : leaf_with t.nodes e.number ≡ None
  pub reaches : ReachesOf t e.rect leaf

-- the transaction holds the commit needs of the put, and beside them, among all locks that are held, the short needs that it asked
pub record HoldsPutNeeds (t t' : Table) (leaf : ℕ) (searches : List Rectangle) (locks all : List Lock) (txn : ℕ) (commit short asked : List Need) : Type 0 where
  pub are_commit : AreNeedsOf (PutWant (granules t) (granules t') searches) Commit commit
  pub are_short : AreNeedsOf (ShortWant (granules t) (granules t') (Some leaf)) Short short
  pub holds_commit : HoldsEach locks txn commit
  pub asked_short : AreAskedOrHeld locks txn short asked
  pub holds_asked : HoldsEach all txn asked
  pub compatible : AllCompatible all
  pub among_all : (lock : Lock) → Among lock locks → Among lock all

-- the transaction holds X on the object of its entry, and is given what it wants on new nodes, which nobody has a lock on
pub record AreGiven (t t' : Table) (e : Entry) (searches : List Rectangle) (es : List Entry) (locks gifts : List Lock) (txn : ℕ) : Type 0 where
  pub below : AreBelow t.next locks
  pub on_new : AreGifts t.next txn gifts
  pub given : HoldsGifts es (granules t) (granules t') searches (locks ++ gifts) txn (standing e)
  pub object : HoldsMode locks txn (Object e.id) X
