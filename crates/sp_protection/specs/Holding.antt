-- The locks that transactions hold to their end, and needs on granules.
use Rattle.std.specs.Prelude.{◌≡◌, ◌≢◌, ℕ, ◌<◌, ◌≤◌, Bool, true, false, ◌&&◌, ◌||◌, nat_eq, List, [], ◌∷◌}
use Rattle.sp_locks.specs.declared.mode.Mode.{Mode}
use Rattle.sp_locks.specs.declared.row.Name.{Name}
use Rattle.sp_locks.specs.declared.row.Name.TheVariants.{Granule}
use Rattle.sp_locks.specs.Modes.{compatible, covers}
use Rattle.sp_node.specs.Among.{Among}

-- a lock that is held until its transaction ends, by the number of the transaction
pub record Lock : Type 0 where
  pub txn : ℕ
  pub name : Name
  pub mode : Mode

-- a mode that is asked on the granule of that number
pub record GranuleNeed : Type 0 where
  pub number : ℕ
  pub mode : Mode

-- the transaction holds the mode or more on the name
pub record HoldsMode (locks : List Lock) (txn : ℕ) (name : Name) (mode : Mode) : Type 0 where
  pub lock : Lock
  pub held : Among lock locks
  pub by_txn : lock.txn ≡ txn
  pub on_name : lock.name ≡ name
  pub enough : covers lock.mode mode ≡ true

-- what different transactions hold on one name is compatible
abbrev pub AllCompatible : List Lock → Type 0
AllCompatible locks = (a b : Lock) → Among a locks → Among b locks → a.txn ≢ b.txn → a.name ≡ b.name → compatible a.mode b.mode ≡ true

-- whether the needs have the mode or more on the granule
abbrev pub has : List GranuleNeed → ℕ → Mode → Bool
has [] number mode = false
has (need ∷ needs) number mode = (nat_eq need.number number && covers need.mode mode) || has needs number mode

-- no other transaction holds a mode that is incompatible with a need
abbrev pub Unopposed : List Lock → ℕ → List GranuleNeed → Type 0
Unopposed locks txn needs = (lock : Lock) (need : GranuleNeed) → Among lock locks → Among need needs → lock.txn ≢ txn → lock.name ≡ Granule need.number → compatible lock.mode need.mode ≡ true

-- nobody holds a mode that is incompatible with a need
abbrev pub UnopposedByAll : List Lock → List GranuleNeed → Type 0
UnopposedByAll locks needs = (lock : Lock) (need : GranuleNeed) → Among lock locks → Among need needs → lock.name ≡ Granule need.number → compatible lock.mode need.mode ≡ true

-- the transaction holds each need
abbrev pub HoldsNeeds : List Lock → ℕ → List GranuleNeed → Type 0
HoldsNeeds locks txn needs = (need : GranuleNeed) → Among need needs → HoldsMode locks txn (Granule need.number) need.mode

-- each lock on a granule names a number below next
abbrev pub AreBelow : ℕ → List Lock → Type 0
AreBelow next locks = (lock : Lock) (number : ℕ) → Among lock locks → lock.name ≡ Granule number → number < next

-- locks of the transaction on granules with new numbers
abbrev pub AreGifts : ℕ → ℕ → List Lock → Type 0
AreGifts next txn gifts = (lock : Lock) → Among lock gifts → (lock.txn ≡ txn) × ((number : ℕ) × (lock.name ≡ Granule number) × (next ≤ number))
