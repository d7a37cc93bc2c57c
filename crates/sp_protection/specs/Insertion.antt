-- What an insertion leaves of the locks of all transactions.
use Rattle.std.specs.Prelude.{◌≡◌, ◌≢◌, ◌⊎◌, ℕ, true, List}
use Rattle.sp_locks.specs.declared.row.Name.TheVariants.{Granule as OnGranule, Object}
use Rattle.sp_locks.specs.declared.mode.Mode.TheVariants.{IX, X}
use Rattle.sp_rect.specs.Plane.{Rectangle, IsRectangle}
use Rattle.sp_node.specs.declared.node.Entry.{Entry}
use Rattle.sp_node.specs.Among.{Among}
use Rattle.sp_node.specs.Marks.{is_marked}
use Rattle.sp_granule.specs.Granules.{Granule, Standing, standing}
use Rattle.sp_protection.specs.Holding.{Lock, HoldsMode, AllCompatible}
use Rattle.sp_protection.specs.Guarding.{Guarded, Owned, HoldsMeeting, AreSame}
use Rattle.sp_protection.specs.Reshape.{HasNumber, SameStandings, StillHas}

-- what stands there is one of the entries, with a mark of the transaction
abbrev pub IsMarkedEntry : List Entry → ℕ → Standing → Type 0
IsMarkedEntry es txn x = (e : Entry) × Among e es × (is_marked txn e ≡ true) × (standing e ≡ x)

-- the granules after an insertion have what stood in those before it, and the new entry. What moves to another leaf moves to a new one
pub record Inserts (gs gs' : List Granule) (e : Standing) : Type 0 where
  pub same_standings : SameStandings gs gs'
  pub keeps : (g : Granule) (x : Standing) → Among g gs → Among x g.entries → StillHas gs' x.number
  pub enters : StillHas gs' e.number
  pub only : (after : Granule) (x : Standing) → Among after gs' → Among x after.entries → x.number ≡ e.number → x ≡ e
  pub moves_to_new : (g after : Granule) (x : Standing) → Among g gs → Among x g.entries → Among after gs' → Among x after.entries → after.number ≢ g.number → HasNumber gs after.number → ⊥

-- the transaction has IX on each new leaf with an entry that it marked, and on the leaf of the new entry, whose object it has with X
pub record HoldsOwn (es : List Entry) (gs gs' : List Granule) (locks locks' : List Lock) (txn : ℕ) (e : Standing) : Type 0 where
  pub new_leaves : (after : Granule) (x : Standing) → Among after gs' → after.is_leaf ≡ true → (HasNumber gs after.number → ⊥) → Among x after.entries → IsMarkedEntry es txn x → Owned gs locks txn x → HoldsMode locks' txn (OnGranule after.number) IX
  pub new_entry : (after : Granule) → Among after gs' → after.is_leaf ≡ true → Among e after.entries → HoldsMode locks' txn (OnGranule after.number) IX
  pub object : HoldsMode locks' txn (Object e.id) X

-- what each transaction guards and owns, it guards and owns afterwards, and the new entry is owned. Of what the inserting one guards, no granule changed or it holds S on all that meets it now
pub record KeepsAll (es : List Entry) (gs gs' : List Granule) (locks locks' : List Lock) (txn : ℕ) (e : Standing) : Type 0 where
  pub compatible : AllCompatible locks'
  pub guarded : (other : ℕ) (rect : Rectangle) → other ≢ txn → Guarded gs locks other rect → Guarded gs' locks' other rect
  pub owned : (other : ℕ) (x : Standing) → other ≢ txn → Owned gs locks other x → Owned gs' locks' other x
  pub own_guarded : (rect : Rectangle) → IsRectangle rect → AreSame gs gs' ⊎ HoldsMeeting gs' locks' txn rect → Guarded gs locks txn rect → Guarded gs' locks' txn rect
  pub own_owned : (x : Standing) → IsMarkedEntry es txn x → Owned gs locks txn x → Owned gs' locks' txn x
  pub own_new : Owned gs' locks' txn e
