-- What holds of a kernel between events. Each part speaks of the parts of a kernel that it names.
use Rattle.std.specs.Prelude.{◌≡◌, ◌≢◌, ◌⊎◌, ℕ, ◌+◌, ◌<◌, ◌≤◌, ◌^◌, Bool, true, false, ◌&&◌, nat_eq, List, [], ◌∷◌, ◌++◌, map, length, Some}
use Rattle.std.specs.List.{AllByRecursion, IsDistinct, list_any}
use Rattle.sp_rect.specs.Store.{IsOrdered}
use Rattle.sp_rect.specs.Serial.{Serial, after_all}
use Rattle.sp_rect.specs.declared.operation.Answered.{Answered}
use Rattle.sp_rect.specs.declared.operation.Op.{Op}
use Rattle.sp_locks.specs.declared.mode.Mode.{Mode}
use Rattle.sp_locks.specs.declared.row.Name.{Name}
use Rattle.sp_locks.specs.declared.row.Name.TheVariants.{Granule as OnGranule}
use Rattle.sp_locks.specs.declared.row.Row.{Row}
use Rattle.sp_locks.specs.declared.row.Duration.TheVariants.{Commit}
use Rattle.sp_locks.specs.declared.needs.Need.{Need}
use Rattle.sp_locks.specs.Modes.{covers}
use Rattle.sp_locks.specs.Rows.{is_held_by, is_short, same_name}
use Rattle.sp_locks.specs.Table.{row_of}
use Rattle.sp_locks.specs.Soundness.{IsSound}
use Rattle.sp_waits.specs.Edges.{NoCycle}
use Rattle.sp_node.specs.declared.node.Entry.{Entry}
use Rattle.sp_node.specs.Among.{Among}
use Rattle.sp_node.specs.Look.{IsAscending}
use Rattle.sp_node.specs.Marks.{is_marked, is_made_by, is_ended_by, is_draft_of, is_done}
use Rattle.sp_node.specs.Table.{IsValid}
use Rattle.sp_granule.specs.Granules.{granules}
use Rattle.sp_txn.specs.Visible.{live}
use Rattle.sp_protection.specs.Guarding.{MarksOwned}
use Rattle.sp_protection.specs.Needs.{AreInOrder}
use Rattle.sp_protection.specs.Replays.{Replays, HoldsParts, HasRectangles}
use Rattle.sp_model.specs.declared.session.Session.{Session}
use Rattle.sp_model.specs.declared.session.Stage.{Stage}
use Rattle.sp_model.specs.declared.session.Stage.TheVariants.{Started, NameWait, Named, NeedWait, Planned, Queued, Placed}
use Rattle.sp_model.specs.State.{Kernel, entries_in, is_active, searched, locks_of}
use Rattle.sp_model.specs.Refusals.{is_search, under_way, open_transactions, open_operations, kept_operations, most_transactions, most_endings, most_operations, most_history, first_unused}
use Rattle.sp_model.specs.Plans.{object_of, HasRectangle, HasNeeds, is_held, is_covered}
use Rattle.sp_model.specs.Stepped.{kept_records, most_entries, most_records_told}
use Rattle.sp_model.specs.Unmarked.{IsDeadUntouched}
use Rattle.sp_model.specs.Places.{HasPlaces}

-- the sessions stand by ascending number, and have distinct transactions with numbers that are used
abbrev pub AreAscending : List Session → Type 0
AreAscending [] = Unit {0}
AreAscending (x ∷ xs) = AllByRecursion (λ y. x.txn.session < y.txn.session) xs × AreAscending xs

pub record SoundSessions (next : ℕ) (commits : ℕ) (sessions : List Session) : Type 0 where
  pub ascending : AreAscending sessions
  pub numbers : IsDistinct nat_eq (map (λ x. x.txn.number) sessions)
  pub used : (x : Session) → Among x sessions → x.txn.number < next
  -- each saw no more places than were taken
  pub seen : (x : Session) → Among x sessions → x.txn.seen ≤ commits
  -- the rectangles kept are those of the operations
  pub searches : (x : Session) → Among x sessions → x.txn.searches ≡ searched x.txn.ops

-- a session at this stage may have the row: a planned one waits for nothing, short locks are of the latch's holders, and a short lock is waited for in the wait for a need alone
abbrev pub MayHave : Stage → Row → Type 0
MayHave (Planned op left) row = row.waiting ≡ false
MayHave (NameWait op) row = is_short row ≡ false
MayHave (NeedWait op) row = row.waiting ≡ false → is_short row ≡ false
MayHave Placed row = ⊥
MayHave stage row = (row.waiting ≡ false) × (is_short row ≡ false)

-- the row is one of a session that has a transaction, and fits its stage
pub record HasOwner (sessions : List Session) (row : Row) : Type 0 where
  pub owner : Session
  pub among : Among owner sessions
  pub is_owner : owner.txn.session ≡ row.session
  pub may : MayHave owner.stage row

abbrev pub RowsOwned : List Session → List Row → Type 0
RowsOwned sessions rows = (row : Row) → Among row rows → HasOwner sessions row

-- no row names a node number that was not used
abbrev pub NamesUsed : ℕ → List Row → Type 0
NamesUsed next rows = (row : Row) (number : ℕ) → Among row rows → row.name ≡ OnGranule number → number < next

-- two sessions at these stages may hold the latch at once
abbrev pub SharesLatch : Stage → Stage → Type 0
SharesLatch (Planned op left) (Planned other rest) = (is_search op ≡ true) × (is_search other ≡ true)
SharesLatch stage other = Unit {0}

-- several hold the latch only where all of them search
abbrev pub LatchShared : List Session → Type 0
LatchShared sessions = (x y : Session) → Among x sessions → Among y sessions → x.txn.session ≢ y.txn.session → SharesLatch x.stage y.stage

-- the session holds the lock on the object of the operation
abbrev pub HoldsObject : List Row → ℕ → Op → Type 0
HoldsObject rows s op = (name : Name) (mode : Mode) → object_of op ≡ Some (name, mode) → is_held rows s (record { name = name; mode = mode; duration = Commit }) ≡ true

-- the session holds the lock on the object of the operation, or waits for it
abbrev pub AwaitsObject : List Row → ℕ → Op → Type 0
AwaitsObject rows s op = (name : Name) (mode : Mode) → object_of op ≡ Some (name, mode) → (is_held rows s (record { name = name; mode = mode; duration = Commit }) ≡ true) ⊎ Among (row_of s name mode Commit true) rows

-- some lock of the session covers the need, for however long it is held
abbrev pub is_met : List Row → ℕ → Need → Bool
is_met rows s need = list_any (λ row. is_held_by s row && (same_name row.name need.name && covers row.mode need.mode)) rows

-- the needs of the operation are held or left to ask, but for short ones that a commit need covers; and only needs are left
pub record IsPlanned (k : Kernel) (x : Session) (op : Op) (left : List Need) : Type 0 where
  pub commit : List Need
  pub short : List Need
  pub needs : HasNeeds k x op commit short
  pub commit_met : (need : Need) → Among need commit → (is_held k.locks x.txn.session need ≡ true) ⊎ Among need left
  pub short_met : (need : Need) → Among need short → is_covered commit need ≡ false → (is_met k.locks x.txn.session need ≡ true) ⊎ Among need left
  pub only : (need : Need) → Among need left → Among need commit ⊎ Among need short
  pub in_order : AreInOrder left

-- an operation that waited for the lock on its object waits for it or holds it, and holds it from then on; once planned, its needs are met
abbrev pub HoldsStage : Kernel → Session → Stage → Type 0
HoldsStage k x (NameWait op) = AwaitsObject k.locks x.txn.session op
HoldsStage k x (Named op) = HoldsObject k.locks x.txn.session op
HoldsStage k x (NeedWait op) = HoldsObject k.locks x.txn.session op
HoldsStage k x (Planned op left) = HoldsObject k.locks x.txn.session op × IsPlanned k x op left
HoldsStage k x stage = Unit {0}

-- what holds of the operation that is under way
abbrev pub OfStage : (Op → Type 0) → Stage → Type 0
OfStage P (Started op) = P op
OfStage P (NameWait op) = P op
OfStage P (Named op) = P op
OfStage P (NeedWait op) = P op
OfStage P (Planned op left) = P op
OfStage P stage = Unit {0}

-- each mark is one of an active transaction
abbrev pub MarksActive : List Session → List Entry → Type 0
MarksActive sessions es = (t : ℕ) (e : Entry) → Among e es → is_marked t e ≡ true → (x : Session) × Among x sessions × (is_active x ≡ true) × (x.txn.number ≡ t)

-- a transaction number that is not used stands in no entry, dead ones too
abbrev pub NumbersUsed : ℕ → List Entry → Type 0
NumbersUsed next es = (t : ℕ) (e : Entry) → next ≤ t → Among e es → (is_made_by t e.marks.made ≡ false) × (is_ended_by t e.marks.ended ≡ false) × (is_draft_of t e.marks.draft ≡ false)

-- the dead list has each dead entry once
pub record DeadListed (dead : List ℕ) (es : List Entry) : Type 0 where
  pub once : IsDistinct nat_eq dead
  pub there : (e : Entry) → Among e es → is_done e.marks.ended ≡ true → Among e.number dead
  pub back : (number : ℕ) → Among number dead → (e : Entry) × Among e es × (e.number ≡ number) × (is_done e.marks.ended ≡ true)

abbrev pub is_queued : Stage → Bool
is_queued Queued = true
is_queued stage = false

-- the queue and the batch in flight have each queued session once
pub record QueueSound (sessions : List Session) (queue flight : List ℕ) (calls : ℕ) : Type 0 where
  pub once : IsDistinct nat_eq (flight ++ queue)
  pub there : (x : Session) → Among x sessions → is_queued x.stage ≡ true → Among x.txn.session (flight ++ queue)
  pub back : (s : ℕ) → Among s (flight ++ queue) → (x : Session) × Among x sessions × (x.txn.session ≡ s) × (is_queued x.stage ≡ true)
  pub calls_few : calls < 4
  pub begun : flight ≢ [] → 1 ≤ calls
  pub none : flight ≡ [] → calls ≡ 0

-- the counts are within their limits
pub record WithinCounts (k : Kernel) : Type 0 where
  pub transactions : open_transactions k.sessions ≤ most_transactions
  pub endings : length k.commits + length k.ended + open_transactions k.sessions ≤ most_endings
  pub operations : (x : Session) → Among x k.sessions → is_active x ≡ true → length x.txn.ops + under_way x.stage ≤ most_operations
  pub history : kept_operations k.commits + open_operations k.sessions ≤ most_history
  pub replies : kept_records k ≤ most_records_told
  pub entries : length (entries_in k) ≤ most_entries
  pub node_numbers : k.tree.next < 2 ^ 63 + 2 ^ 32
  pub entry_numbers : k.next_entry ≤ first_unused
  pub txn_numbers : k.next_txn ≤ first_unused

-- A sound kernel.
pub record Sound (k : Kernel) : Type 0 where
  -- the tree is valid, and its entries have numbers that are used
  pub valid : IsValid k.tree
  pub ascending : IsAscending k.tree.nodes
  pub entry_numbers : (e : Entry) → Among e (entries_in k) → e.number < k.next_entry
  -- the audit is serial, and what is live is what its commits leave
  pub base : IsOrdered k.base
  pub serial : Serial k.base k.commits
  pub current : live (entries_in k) ≡ after_all k.base k.commits
  -- the lock table is sound, no waits form a cycle, and each row is one of a session that may have it
  pub locks : IsSound k.locks
  pub acyclic : NoCycle k.locks
  pub rows : RowsOwned k.sessions k.locks
  pub names : NamesUsed k.tree.next k.locks
  -- sessions and latch
  pub sessions : SoundSessions k.next_txn (length k.commits) k.sessions
  pub latch : LatchShared k.sessions
  pub stages : (x : Session) → Among x k.sessions → HoldsStage k x x.stage
  pub in_space : (x : Session) → Among x k.sessions → OfStage HasRectangle x.stage
  -- what each active transaction looked at it guards, what it marked it owns, and what it was told holds on what is live
  pub rectangles : (x : Session) → Among x k.sessions → is_active x ≡ true → HasRectangles x.txn.ops
  pub parts : (x : Session) → Among x k.sessions → is_active x ≡ true → HoldsParts (granules k.tree) (locks_of k.sessions k.locks) x.txn.number x.txn.ops
  pub objects : (x : Session) (pair : Answered) → Among x k.sessions → is_active x ≡ true → Among pair x.txn.ops → HoldsObject k.locks x.txn.session pair.op
  pub owned : MarksOwned (granules k.tree) (locks_of k.sessions k.locks) (entries_in k)
  pub replays : (x : Session) → Among x k.sessions → is_active x ≡ true → Replays (entries_in k) x.txn.number x.txn.ops
  pub active : MarksActive k.sessions (entries_in k)
  pub numbers : NumbersUsed k.next_txn (entries_in k)
  -- the dead list, the queue and the counts
  pub dead : DeadListed k.dead (entries_in k)
  pub queued : QueueSound k.sessions k.queue k.flight k.calls
  pub counts : WithinCounts k
  -- nothing on a dead entry is of an active transaction, and the last commit of a placed session is that of its transaction
  pub untouched : IsDeadUntouched k
  pub places : HasPlaces k
