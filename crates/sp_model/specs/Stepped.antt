-- One event with its answer: the answer is the first whose condition holds, and the kernel after it is what the
-- answer leaves.
use Rattle.std.specs.Prelude.{◌≡◌, ◌≢◌, ◌⊎◌, ℕ, ◌+◌, ◌<◌, ◌≤◌, Bool, true, false, ◌&&◌, not, nat_eq, List, [], ◌∷◌, ◌++◌, filter, length, Some, None, cond}
use Rattle.std.specs.List.{list_any, sum_by}
use Rattle.sp_rect.specs.declared.record.Record.{Record}
use Rattle.sp_rect.specs.declared.commit.Commit.{Commit}
use Rattle.sp_rect.specs.declared.operation.Answered.{Answered}
use Rattle.sp_rect.specs.declared.operation.Op.{Op}
use Rattle.sp_rect.specs.declared.operation.Op.TheVariants.{Put}
use Rattle.sp_rect.specs.declared.operation.Reply.{Reply as Told}
use Rattle.sp_rect.specs.declared.operation.Reply.TheVariants.{Rec, Found}
use Rattle.sp_rect.specs.Store.{replied}
use Rattle.sp_locks.specs.declared.mode.Mode.{Mode}
use Rattle.sp_locks.specs.declared.row.Name.{Name as OnName}
use Rattle.sp_locks.specs.declared.row.Name.TheVariants.{Granule as OnGranule}
use Rattle.sp_locks.specs.declared.row.Row.{Row}
use Rattle.sp_locks.specs.declared.row.Duration.TheVariants.{Commit as ToTheEnd, Short}
use Rattle.sp_locks.specs.declared.needs.Need.{Need}
use Rattle.sp_locks.specs.Table.{held}
use Rattle.sp_locks.specs.Blocking.{is_compatible_with}
use Rattle.sp_node.specs.declared.node.Entry.{Entry}
use Rattle.sp_node.specs.Among.{Among}
use Rattle.sp_node.specs.Marks.{is_marked, is_made_by, is_ended_by}
use Rattle.sp_node.specs.Table.{Table}
use Rattle.sp_granule.specs.Granules.{granules}
use Rattle.sp_txn.specs.Visible.{view}
use Rattle.sp_protection.specs.Needs.{ShortWant, AreNeedsOf}
use Rattle.sp_event.specs.declared.event.Event.{Event}
use Rattle.sp_event.specs.declared.event.Event.TheVariants.{Begin, Start, Name, Plan, Ask, Apply, Commit as AskCommit, Flush, Rollback, Clean}
use Rattle.sp_event.specs.declared.answer.Answer.{Answer}
use Rattle.sp_event.specs.declared.answer.Answer.TheVariants.{Began, Started as IsStarted, Granted, Planned as IsPlanned, Reply, Committed, Queued as IsQueued, RolledBack, Full, Wrote, Durable, Nothing, Removed, Later}
use Rattle.sp_event.specs.declared.answer.Kind.TheVariants.{Entries, Numbers, Replies}
use Rattle.sp_model.specs.declared.session.Session.{Session}
use Rattle.sp_model.specs.declared.session.Stage.TheVariants.{Idle, Started, NameWait, Named, NeedWait, Planned, Queued, Placed}
use Rattle.sp_model.specs.State.{Kernel, entries_in, is_active, session_at, sessions_without}
use Rattle.sp_model.specs.Refusals.{first_unused, turned_away}
use Rattle.sp_model.specs.Moves.{with_stage, begun, rolled_back, Requests, committed, finished, marked, inserted, cleaned, put_off, placed_all, taken_off}
use Rattle.sp_model.specs.Plans.{object_of, HasRectangle, is_adding, Inserts, HasNeeds, left_to_ask, AreGiftsOf}

-- the session of that number has this transaction
abbrev pub IsAt : Kernel → ℕ → Session → Type 0
IsAt k s x = session_at s k.sessions ≡ Some x

-- the records in a reply that count
abbrev pub records_in : Told → ℕ
records_in (Rec r) = 1
records_in (Found rs) = length rs
records_in reply = 0

abbrev pub records_told : List Answered → ℕ
records_told pairs = sum_by (λ p. records_in p.reply) pairs

-- the records in all replies that are kept
abbrev pub kept_records : Kernel → ℕ
kept_records k = sum_by (λ c. records_told c.ops) k.commits + sum_by (λ x. records_told x.txn.ops) (filter is_active k.sessions)

abbrev pub reply_of : Kernel → Session → Op → Told
reply_of k x op = replied op (view (entries_in k) x.txn.number)

-- the most entries, and the most records in kept replies
abbrev pub most_entries : ℕ
most_entries = 1048576

abbrev pub most_records_told : ℕ
most_records_told = 8388608

-- the counts that an operation would pass, by the tree that it leaves where it adds an entry
abbrev pub PassesEntries : Kernel → Type 0
PassesEntries k = most_entries ≤ length (entries_in k)

abbrev pub PassesNumbers : Kernel → Table → Type 0
PassesNumbers k after = (first_unused ≤ k.next_entry) ⊎ ((first_unused ≤ k.tree.next) × (k.tree.next < after.next))

abbrev pub PassesReplies : Kernel → Session → Op → Type 0
PassesReplies k x op = (0 < records_in (reply_of k x op)) × (most_records_told < kept_records k + records_in (reply_of k x op))

-- the transaction has a change: a mark on an entry that it did not both make and end
abbrev pub is_change : ℕ → Entry → Bool
is_change txn e = is_marked txn e && not (is_made_by txn e.marks.made && is_ended_by txn e.marks.ended)

abbrev pub has_changes : Kernel → Session → Bool
has_changes k x = list_any (is_change x.txn.number) (entries_in k)

-- the place of the last commit of the session
abbrev pub last_place : ℕ → List Commit → ℕ → ℕ
last_place s [] found = found
last_place s (c ∷ cs) found = last_place s cs (cond (nat_eq c.session s) c.place found)

-- a held lock of the session is against the need
abbrev pub IsAgainst : List Row → Need → ℕ → Type 0
IsAgainst rows need s = is_compatible_with need.mode (held s need.name rows) ≡ false

-- the first of the needs that a held lock is against, the least session that holds one, and what it holds there
pub record IsPutOff (rows : List Row) (needs : List Need) (granule holder : ℕ) (mode : Mode) : Type 0 where
  pub earlier : List Need
  pub need : Need
  pub later : List Need
  pub stands : needs ≡ earlier ++ need ∷ later
  pub first : (other : Need) → Among other earlier → (s : ℕ) → IsAgainst rows other s → ⊥
  pub on : need.name ≡ OnGranule granule
  pub against : IsAgainst rows need holder
  pub least : (s : ℕ) → IsAgainst rows need s → holder ≤ s
  pub holds : held holder need.name rows ≡ Some mode

-- nobody holds a lock against the needs
abbrev pub AreUnopposed : List Row → List Need → Type 0
AreUnopposed rows needs = (need : Need) → Among need needs → (s : ℕ) → IsAgainst rows need s → ⊥

-- what the removal of the first dead entry needs, and the tree that it leaves
pub record Removes (IsRemoved : Table → ℕ → Table → Type 0) (k : Kernel) (n : ℕ) (rest : List ℕ) (after : Table) (short : List Need) : Type 0 where
  pub first : k.dead ≡ n ∷ rest
  pub removed : IsRemoved k.tree n after
  pub needs : AreNeedsOf (ShortWant (granules k.tree) (granules after) None) Short short
  pub in_numbers : (first_unused ≤ k.tree.next) → (k.tree.next < after.next) → ⊥

-- what an event does that is not turned away. `IsRemoved` is the removal of an entry from a tree. The rectangle of the operation that a start brings is one in space, as every rectangle of the code is
pub data Does (IsRemoved : Table → ℕ → Table → Type 0) (k : Kernel) : Event → Answer → Kernel → Type 0 where
  Begins : (s : ℕ) → Does IsRemoved k (Begin s) (Began k.next_txn (length k.commits)) (begun s k)
  Starts : (s : ℕ) (x : Session) (op : Op) → IsAt k s x → HasRectangle op → Does IsRemoved k (Start s op) IsStarted (with_stage s (Started op) k)
  NamesNothing : (s : ℕ) (x : Session) (op : Op) → IsAt k s x → x.stage ≡ Started op → object_of op ≡ None → Does IsRemoved k (Name s) Granted (with_stage s (Named op) k)
  Names : (s : ℕ) (x : Session) (op : Op) (name : OnName) (mode : Mode) (answer : Answer) (after : Kernel) → IsAt k s x → x.stage ≡ Started op → object_of op ≡ Some (name, mode)
      → Requests k x name mode ToTheEnd (Named op) (NameWait op) answer after → Does IsRemoved k (Name s) answer after
  HasWaited : (s : ℕ) (x : Session) (op : Op) → IsAt k s x → x.stage ≡ NameWait op → Does IsRemoved k (Name s) Granted (with_stage s (Named op) k)
  Plans : (s : ℕ) (x : Session) (op : Op) (commit short : List Need) → IsAt k s x → (x.stage ≡ Named op) ⊎ (x.stage ≡ NeedWait op) → HasNeeds k x op commit short
      → Does IsRemoved k (Plan s) (IsPlanned (length (left_to_ask k.locks s commit short))) (with_stage s (Planned op (left_to_ask k.locks s commit short)) k)
  Asks : (s : ℕ) (x : Session) (op : Op) (need : Need) (left : List Need) (answer : Answer) (after : Kernel) → IsAt k s x → x.stage ≡ Planned op (need ∷ left)
      → Requests k x need.name need.mode need.duration (Planned op left) (NeedWait op) answer after → Does IsRemoved k (Ask s) answer after
  FullOfEntries : (s : ℕ) (x : Session) (op : Op) → IsAt k s x → x.stage ≡ Planned op [] → is_adding k x op ≡ true → PassesEntries k → Does IsRemoved k (Apply s) (Full Entries) (finished x k)
  FullOfNumbers : (s : ℕ) (x : Session) (r : Record) (after : Table) (chosen : ℕ) → IsAt k s x → x.stage ≡ Planned (Put r) [] → is_adding k x (Put r) ≡ true → (PassesEntries k → ⊥)
      → Inserts k x r after chosen → PassesNumbers k after → Does IsRemoved k (Apply s) (Full Numbers) (finished x k)
  FullOfReplies : (s : ℕ) (x : Session) (op : Op) → IsAt k s x → x.stage ≡ Planned op [] → PassesReplies k x op → Does IsRemoved k (Apply s) (Full Replies) (finished x k)
  Applies : (s : ℕ) (x : Session) (op : Op) → IsAt k s x → x.stage ≡ Planned op [] → is_adding k x op ≡ false → (PassesReplies k x op → ⊥) → Does IsRemoved k (Apply s) (Reply (reply_of k x op)) (marked x op k)
  Inserts_entry : (s : ℕ) (x : Session) (r : Record) (after : Table) (chosen : ℕ) (gifts : List Need) → IsAt k s x → x.stage ≡ Planned (Put r) [] → is_adding k x (Put r) ≡ true → (PassesEntries k → ⊥)
      → Inserts k x r after chosen → (PassesNumbers k after → ⊥) → AreGiftsOf k x after gifts → Does IsRemoved k (Apply s) (Reply (reply_of k x (Put r))) (inserted x (Put r) after gifts k)
  Commits : (s : ℕ) (x : Session) → IsAt k s x → x.stage ≡ Idle → has_changes k x ≡ false → Does IsRemoved k (AskCommit s) (Committed (length k.commits + 1)) (committed x k)
  JoinsQueue : (s : ℕ) (x : Session) → IsAt k s x → x.stage ≡ Idle → has_changes k x ≡ true → Does IsRemoved k (AskCommit s) IsQueued (record (with_stage s Queued k) { queue = k.queue ++ s ∷ [] })
  StaysQueued : (s : ℕ) (x : Session) → IsAt k s x → x.stage ≡ Queued → Does IsRemoved k (AskCommit s) IsQueued k
  TellsPlace : (s : ℕ) (x : Session) → IsAt k s x → x.stage ≡ Placed → Does IsRemoved k (AskCommit s) (Committed (last_place s k.commits 0)) (record k { sessions = sessions_without s k.sessions })
  RollsBack : (s : ℕ) (x : Session) → IsAt k s x → Does IsRemoved k (Rollback s) RolledBack (rolled_back x k)
  FlushesNothing : k.flight ≡ [] → k.queue ≡ [] → Does IsRemoved k Flush Nothing k
  TakesOff : k.flight ≡ [] → k.queue ≢ [] → Does IsRemoved k Flush Wrote (taken_off k)
  Writes : k.flight ≢ [] → k.calls < 3 → Does IsRemoved k Flush Wrote (record k { calls = k.calls + 1 })
  IsDurable : k.flight ≢ [] → k.calls ≡ 3 → Does IsRemoved k Flush (Durable (length k.commits + 1) (length k.flight)) (placed_all k)
  CleansNothing : k.dead ≡ [] → Does IsRemoved k Clean Nothing k
  CleanIsFull : (n : ℕ) (rest : List ℕ) (after : Table) → k.dead ≡ n ∷ rest → IsRemoved k.tree n after → first_unused ≤ k.tree.next → k.tree.next < after.next → Does IsRemoved k Clean (Full Numbers) k
  Cleans : (n : ℕ) (rest : List ℕ) (after : Table) (short : List Need) → Removes IsRemoved k n rest after short → AreUnopposed k.locks short → Does IsRemoved k Clean (Removed n) (cleaned after rest k)
  PutsOff : (n : ℕ) (rest : List ℕ) (after : Table) (short : List Need) (granule holder : ℕ) (mode : Mode) → Removes IsRemoved k n rest after short → IsPutOff k.locks short granule holder mode
      → Does IsRemoved k Clean (Later granule holder mode) (put_off n rest k)

-- One event: it is turned away and leaves the kernel as it is, or it does what it does. Want of memory and a fault of the disk are apart
pub data Stepped (IsRemoved : Table → ℕ → Table → Type 0) (k : Kernel) (event : Event) : Answer → Kernel → Type 0 where
  IsTurnedAway : (answer : Answer) → turned_away k event ≡ Some answer → Stepped IsRemoved k event answer k
  IsDone : (answer : Answer) (after : Kernel) → turned_away k event ≡ None → Does IsRemoved k event answer after → Stepped IsRemoved k event answer after
