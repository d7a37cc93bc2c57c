-- What an event that is not turned away makes of a kernel.
use Rattle.std.specs.Prelude.{◌≡◌, ◌≢◌, ℕ, ◌+◌, true, false, not, nat_eq, nat_le, List, [], ◌∷◌, ◌++◌, map, filter, length, Option, Some, None, cond}
use Rattle.std.specs.List.{list_any}
use Rattle.sp_rect.specs.Store.{part_of, replied}
use Rattle.sp_rect.specs.declared.operation.Op.{Op}
use Rattle.sp_rect.specs.declared.operation.Reply.{Reply}
use Rattle.sp_rect.specs.declared.commit.Commit.{Commit}
use Rattle.sp_locks.specs.declared.mode.Mode.{Mode}
use Rattle.sp_locks.specs.declared.row.Name.{Name}
use Rattle.sp_locks.specs.declared.row.Duration.{Duration}
use Rattle.sp_locks.specs.declared.row.Scope.TheVariants.{ShortLocks, AllRows}
use Rattle.sp_locks.specs.declared.needs.Need.{Need}
use Rattle.sp_locks.specs.Table.{blockers, row_of, with_row_on, released, given}
use Rattle.sp_waits.specs.declared.edge.Edge.{Edge}
use Rattle.sp_waits.specs.Cycles.{IsToldCycle}
use Rattle.sp_node.specs.declared.node.Entry.{Entry}
use Rattle.sp_node.specs.Change.{table_with}
use Rattle.sp_node.specs.Marks.{is_done, settled, undone}
use Rattle.sp_node.specs.Table.{Table}
use Rattle.sp_event.specs.declared.answer.Answer.{Answer}
use Rattle.sp_event.specs.declared.answer.Answer.TheVariants.{Granted, Waits, Deadlock}
use Rattle.sp_txn.specs.Visible.{view}
use Rattle.sp_protection.specs.Effects.{marked_by}
use Rattle.sp_model.specs.declared.session.Session.{Session}
use Rattle.sp_model.specs.declared.session.Stage.{Stage}
use Rattle.sp_model.specs.declared.session.Stage.TheVariants.{Idle, Placed}
use Rattle.sp_model.specs.State.{Kernel, entries_in, session_at, sessions_without, with_session, with_change, staged, area_of}

-- the numbers by ascending order
abbrev pub with_number : ℕ → List ℕ → List ℕ
with_number n [] = n ∷ []
with_number n (m ∷ ms) = cond (nat_le n m) (n ∷ m ∷ ms) (m ∷ with_number n ms)

abbrev pub ascending : List ℕ → List ℕ
ascending [] = []
ascending (n ∷ ns) = with_number n (ascending ns)

-- the numbers of the entries that are dead
abbrev pub dead_among : List Entry → List ℕ
dead_among es = map (λ e. e.number) (filter (λ e. is_done e.marks.ended) es)

-- the entries that are dead in the second list and not in the first, by ascending number
abbrev pub newly_dead : List Entry → List Entry → List ℕ
newly_dead before after = ascending (filter (λ n. not (list_any (nat_eq n) (dead_among before))) (dead_among after))

-- the entries changed where they stand; those that die by it go to the end of the dead list
abbrev pub with_entries : (Entry → Entry) → Kernel → Kernel
with_entries change k = record k {
  tree = table_with change k.tree;
  dead = k.dead ++ newly_dead (entries_in k) (map change (entries_in k));
}

abbrev pub with_stage : ℕ → Stage → Kernel → Kernel
with_stage s stage k = record k { sessions = staged s stage k.sessions }

-- a transaction is open
abbrev pub begun : ℕ → Kernel → Kernel
begun s k = record k {
  next_txn = k.next_txn + 1;
  sessions = with_session (record { txn = record { number = k.next_txn; session = s; seen = length k.commits; ops = []; searches = [] }; stage = Idle }) k.sessions;
}

-- the session's rows go, and those that wait are tried
abbrev pub let_go : ℕ → Kernel → Kernel
let_go s k = record k { locks = released AllRows s k.locks }

abbrev pub let_short_go : ℕ → Kernel → Kernel
let_short_go s k = record k { locks = released ShortLocks s k.locks }

-- a transaction is undone, and its session has none
abbrev pub rolled_back : Session → Kernel → Kernel
rolled_back x k = let_go x.txn.session (with_entries (undone x.txn.number) (record k { sessions = sessions_without x.txn.session k.sessions }))

-- the audit keeps the transaction that a deadlock ended
abbrev pub with_ended : ℕ → List Edge → Kernel → Kernel
with_ended txn cycle k = record k { ended = k.ended ++ record { txn = txn; cycle = cycle } ∷ [] }

-- a request of a session for a mode on a name, with the stages after it is granted and after it waits
pub data Requests (k : Kernel) (x : Session) (name : Name) (mode : Mode) (duration : Duration) (granted waits : Stage) : Answer → Kernel → Type 0 where
  IsGranted : blockers x.txn.session name mode (released ShortLocks x.txn.session k.locks) ≡ []
      → Requests k x name mode duration granted waits Granted
      (record (with_stage x.txn.session granted k) { locks = with_row_on (row_of x.txn.session name mode duration false) k.locks })
  HasToWait : blockers x.txn.session name mode (released ShortLocks x.txn.session k.locks) ≢ []
      → IsToldCycle (released ShortLocks x.txn.session k.locks) x.txn.session name mode None
      → Requests k x name mode duration granted waits (Waits name mode (blockers x.txn.session name mode (released ShortLocks x.txn.session k.locks)))
      (record (with_stage x.txn.session waits k) { locks = with_row_on (row_of x.txn.session name mode duration true) (released ShortLocks x.txn.session k.locks) })
  ClosesCycle : (cycle : List Edge) → blockers x.txn.session name mode (released ShortLocks x.txn.session k.locks) ≢ []
      → IsToldCycle (released ShortLocks x.txn.session k.locks) x.txn.session name mode (Some cycle)
      → Requests k x name mode duration granted waits (Deadlock cycle)
      (with_ended x.txn.number cycle (rolled_back x (let_short_go x.txn.session k)))

-- the transaction takes the next place
abbrev pub placed_commit : Session → Kernel → Commit
placed_commit x k = record { session = x.txn.session; txn = x.txn.number; seen = x.txn.seen; place = length k.commits + 1; ops = x.txn.ops }

abbrev pub with_commit : Session → Kernel → Kernel
with_commit x k = record k { commits = k.commits ++ placed_commit x k ∷ [] }

-- a transaction without changes commits at once
abbrev pub committed : Session → Kernel → Kernel
committed x k = let_go x.txn.session (with_entries (settled x.txn.number) (record (with_commit x k) { sessions = sessions_without x.txn.session k.sessions }))

-- the operation with its reply, and the rectangle that it looked at, join those of the transaction
abbrev pub lengthened : Op → Reply → Session → Session
lengthened op reply x = record x { txn = record x.txn { ops = x.txn.ops ++ record { op = op; reply = reply } ∷ []; searches = x.txn.searches ++ area_of (part_of op) } }

-- the operation is kept, with its reply on what the transaction sees
abbrev pub kept : Session → Op → Kernel → Kernel
kept x op k = record k { sessions = with_change x.txn.session (lengthened op (replied op (view (entries_in k) x.txn.number))) k.sessions }

-- the operation is over: latch and short locks go
abbrev pub finished : Session → Kernel → Kernel
finished x k = let_short_go x.txn.session (with_stage x.txn.session Idle k)

-- an operation that adds no entry: it reads, or it marks what it sees
abbrev pub marked : Session → Op → Kernel → Kernel
marked x op k = finished x (record (kept x op k) { tree = table_with (marked_by x.txn.number op) k.tree })

-- an operation that adds an entry, with the tree and the locks on new granules that it leaves
abbrev pub inserted : Session → Op → Table → List Need → Kernel → Kernel
inserted x op after gifts k = finished x (record (kept x op k) { tree = after; next_entry = k.next_entry + 1; locks = k.locks ++ given x.txn.session gifts })

-- the first dead entry leaves the tree, or goes to the end of the list
abbrev pub cleaned : Table → List ℕ → Kernel → Kernel
cleaned after rest k = record k { tree = after; dead = rest }

abbrev pub put_off : ℕ → List ℕ → Kernel → Kernel
put_off n rest k = record k { dead = rest ++ n ∷ [] }

-- a session whose transaction has its place: what it did stands in the audit, and the session keeps none of it
abbrev pub at_place : Session → Session
at_place x = record { txn = record x.txn { ops = []; searches = [] }; stage = Placed }

-- one commit of the batch takes its place: its marks are settled and its locks go
abbrev pub placed_found : Option Session → Kernel → Kernel
placed_found None k = k
placed_found (Some x) k = let_go x.txn.session (record (with_commit x k) {
  tree = table_with (settled x.txn.number) k.tree;
  sessions = with_change x.txn.session at_place k.sessions;
})

abbrev pub placed_each : List ℕ → Kernel → Kernel
placed_each [] k = k
placed_each (s ∷ rest) k = placed_each rest (placed_found (session_at s k.sessions) k)

-- the batch is on the disk: its commits take the next places in order, and what dies by them all goes to the end of the dead list
abbrev pub placed_all : Kernel → Kernel
placed_all k = record (placed_each k.flight k) {
  dead = k.dead ++ newly_dead (entries_in k) (entries_in (placed_each k.flight k));
  flight = [];
  calls = 0;
}

-- the commits that wait become the batch, and its first call is made
abbrev pub taken_off : Kernel → Kernel
taken_off k = record k { queue = []; flight = k.queue; calls = 1 }
