-- What a transaction was told, replayed on what is live; what its operations hold, and what they leave of others.
use Rattle.std.specs.Prelude.{◌≡◌, ℕ, Bool, true, false, nat_eq, List, map}
use Rattle.std.specs.List.{IsDistinct}
use Rattle.sp_locks.specs.declared.row.Name.TheVariants.{Object}
use Rattle.sp_locks.specs.declared.mode.Mode.TheVariants.{S, X}
use Rattle.sp_rect.specs.Plane.{IsRectangle, Rectangle}
use Rattle.sp_rect.specs.declared.operation.Op.{Op}
use Rattle.sp_rect.specs.declared.operation.Answered.{Answered}
use Rattle.sp_rect.specs.Store.{Part, Id, Area, part_of}
use Rattle.sp_rect.specs.Serial.{records_after, RepliesAsPlain}
use Rattle.sp_node.specs.declared.node.Entry.{Entry}
use Rattle.sp_node.specs.Among.{Among}
use Rattle.sp_node.specs.Marks.{is_marked}
use Rattle.sp_granule.specs.Granules.{Granule}
use Rattle.sp_txn.specs.Visible.{live, view}
use Rattle.sp_protection.specs.Holding.{Lock, HoldsMode}
use Rattle.sp_protection.specs.Guarding.{Guarded}
use Rattle.sp_protection.specs.Effects.{is_changed}

-- on what is live, the operations give their replies, and leave what the transaction sees
pub record Replays (es : List Entry) (txn : ℕ) (pairs : List Answered) : Type 0 where
  pub same_replies : RepliesAsPlain (live es) pairs
  pub same_view : records_after (live es) pairs ≡ view es txn

-- the locks to the end that what an operation looks at wants at least: S on the object of its id, or a guarded rectangle
abbrev pub HoldsPart : List Granule → List Lock → ℕ → Part → Type 0
HoldsPart gs locks txn (Id id) = HoldsMode locks txn (Object id) S
HoldsPart gs locks txn (Area rect) = Guarded gs locks txn rect

abbrev pub HoldsParts : List Granule → List Lock → ℕ → List Answered → Type 0
HoldsParts gs locks txn pairs = (pair : Answered) → Among pair pairs → HoldsPart gs locks txn (part_of pair.op)

-- the areas that the operations look at are rectangles in space
abbrev pub HasRectangles : List Answered → Type 0
HasRectangles pairs = (pair : Answered) (rect : Rectangle) → Among pair pairs → part_of pair.op ≡ Area rect → IsRectangle rect

-- no two of the entries that pass the test have one id
abbrev pub OneEach : (Entry → Bool) → List Entry → Type 0
OneEach test es = (e other : Entry) → Among e es → Among other es → test e ≡ true → test other ≡ true → e.id ≡ other.id → e ≡ other

-- two lists of entries with distinct numbers have the same members that pass the test
pub record SameMembers (test : Entry → Bool) (es others : List Entry) : Type 0 where
  pub distinct : IsDistinct nat_eq (map (λ e. e.number) es)
  pub distinct_others : IsDistinct nat_eq (map (λ e. e.number) others)
  pub there : (e : Entry) → Among e es → test e ≡ true → Among e others
  pub back : (e : Entry) → Among e others → test e ≡ true → Among e es

-- the operation of txn changes no entry with a mark of the other
abbrev pub LeavesMarks : ℕ → ℕ → Op → List Entry → Type 0
LeavesMarks txn other op es = (e : Entry) → Among e es → is_changed txn op e ≡ true → is_marked other e ≡ false

-- the transaction holds X on the object of each entry that its operation changes
abbrev pub HoldsChanged : List Lock → ℕ → Op → List Entry → Type 0
HoldsChanged locks txn op es = (e : Entry) → Among e es → is_changed txn op e ≡ true → HoldsMode locks txn (Object e.id) X
