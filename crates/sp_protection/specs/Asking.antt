-- Needs that are held or asked, and the locks that an insertion hands out on new nodes.
use Rattle.std.specs.Prelude.{◌≡◌, ◌≢◌, ◌⊎◌, ℕ, true, List, [], ◌∷◌, cond, nat_eq}
use Rattle.std.specs.List.{flat_map}
use Rattle.sp_locks.specs.declared.mode.Mode.{Mode}
use Rattle.sp_locks.specs.declared.mode.Mode.TheVariants.{IX, S, X}
use Rattle.sp_locks.specs.declared.row.Name.{Name}
use Rattle.sp_locks.specs.declared.row.Name.TheVariants.{Granule as OnGranule, Object}
use Rattle.sp_locks.specs.declared.needs.Need.{Need}
use Rattle.sp_locks.specs.Modes.{covers}
use Rattle.sp_rect.specs.Plane.{Rectangle}
use Rattle.sp_rect.specs.declared.operation.Op.{Op}
use Rattle.sp_node.specs.declared.node.Entry.{Entry}
use Rattle.sp_node.specs.Among.{Among}
use Rattle.sp_granule.specs.Granules.{Granule, Standing}
use Rattle.sp_protection.specs.Holding.{Lock, GranuleNeed, HoldsMode}
use Rattle.sp_protection.specs.Reshape.{HasNumber}
use Rattle.sp_protection.specs.Needs.{MarksId, GranuleMeets}
use Rattle.sp_protection.specs.Insertion.{IsMarkedEntry}

-- the transaction holds each of the needs
abbrev pub HoldsEach : List Lock → ℕ → List Need → Type 0
HoldsEach locks txn needs = (need : Need) → Among need needs → HoldsMode locks txn need.name need.mode

-- the transaction holds X on the object of the id that its operation may mark
abbrev pub HoldsNamed : List Lock → ℕ → Op → Type 0
HoldsNamed locks txn op = (id : ℕ) → MarksId op id → HoldsMode locks txn (Object id) X

-- one of the needs is the mode or more on the name
pub record IsAsked (asked : List Need) (name : Name) (mode : Mode) : Type 0 where
  pub need : Need
  pub among : Among need asked
  pub on_name : need.name ≡ name
  pub enough : covers need.mode mode ≡ true

-- for each of the needs, one that is asked is enough, or a lock that the transaction holds
abbrev pub AreAskedOrHeld : List Lock → ℕ → List Need → List Need → Type 0
AreAskedOrHeld locks txn needs asked = (need : Need) → Among need needs → IsAsked asked need.name need.mode ⊎ HoldsMode locks txn need.name need.mode

-- the mode as a need, where the name is that of a granule
abbrev pub on_granule : Name → Mode → List GranuleNeed
on_granule (OnGranule number) mode = record { number = number; mode = mode } ∷ []
on_granule (Object id) mode = []

-- those of the needs that are on granules
abbrev pub granule_needs : List Need → List GranuleNeed
granule_needs needs = flat_map (λ need. on_granule need.name need.mode) needs

-- the modes that the transaction holds on granules
abbrev pub held_needs : List Lock → ℕ → List GranuleNeed
held_needs locks txn = flat_map (λ lock. cond (nat_eq lock.txn txn) (on_granule lock.name lock.mode) []) locks

-- no granule has an entry of its number
abbrev pub IsNew : List Granule → Standing → Type 0
IsNew gs e = (g : Granule) (x : Standing) → Among g gs → Among x g.entries → x.number ≢ e.number

-- on new nodes the transaction has IX on each leaf with an entry of its own, the new one or one that it marked, and S on what meets a rectangle that it searched
pub record HoldsGifts (es : List Entry) (gs gs' : List Granule) (searches : List Rectangle) (locks : List Lock) (txn : ℕ) (e : Standing) : Type 0 where
  pub intent : (after : Granule) (x : Standing) → Among after gs' → after.is_leaf ≡ true → (HasNumber gs after.number → ⊥) → Among x after.entries → IsMarkedEntry es txn x ⊎ (x ≡ e) → HoldsMode locks txn (OnGranule after.number) IX
  pub searched : (after : Granule) (rect : Rectangle) → Among after gs' → (HasNumber gs after.number → ⊥) → Among rect searches → GranuleMeets after rect → HoldsMode locks txn (OnGranule after.number) S

-- each of the transaction's locks is still held, or more on its name is
abbrev pub KeepsLocks : List Lock → List Lock → ℕ → Type 0
KeepsLocks locks left txn = (lock : Lock) → Among lock locks → lock.txn ≡ txn → HoldsMode left txn lock.name lock.mode
