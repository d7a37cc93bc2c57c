-- The state of a kernel, as its contracts see it.
use Rattle.std.specs.Prelude.{ℕ, Bool, true, false, not, nat_eq, nat_lt, List, [], ◌∷◌, map, filter, flat_map, Option, Some, None, cond}
use Rattle.sp_rect.specs.Plane.{Rectangle}
use Rattle.sp_rect.specs.Store.{Part, Id, Area, part_of}
use Rattle.sp_rect.specs.declared.record.Record.{Record}
use Rattle.sp_rect.specs.declared.commit.Commit.{Commit}
use Rattle.sp_rect.specs.declared.operation.Answered.{Answered}
use Rattle.sp_locks.specs.declared.row.Row.{Row}
use Rattle.sp_locks.specs.declared.row.Duration.TheVariants.{Commit as ToTheEnd}
use Rattle.sp_locks.specs.Rows.{is_lock_of}
use Rattle.sp_node.specs.declared.node.Entry.{Entry}
use Rattle.sp_node.specs.Table.{Table, entries_of}
use Rattle.sp_audit.specs.declared.ended.Ended.{Ended}
use Rattle.sp_protection.specs.Holding.{Lock}
use Rattle.sp_model.specs.declared.session.Session.{Session}
use Rattle.sp_model.specs.declared.session.Stage.{Stage}
use Rattle.sp_model.specs.declared.session.Stage.TheVariants.{Placed}

-- The tree with its marked entries, the next numbers, the lock rows, the sessions that have a transaction by ascending number, the dead entries in the order in which they are to be removed, the sessions whose commits wait for the next batch and those of the batch in flight, the calls that were made for it, the audit, and the offset of a fault.
pub record Kernel : Type 0 where
  pub tree : Table
  pub next_entry : ℕ
  pub next_txn : ℕ
  pub locks : List Row
  pub sessions : List Session
  pub dead : List ℕ
  pub queue : List ℕ
  pub flight : List ℕ
  pub calls : ℕ
  pub base : List Record
  pub commits : List Commit
  pub ended : List Ended
  pub stopped : Option ℕ

-- the entries of the kernel's tree
abbrev pub entries_in : Kernel → List Entry
entries_in k = entries_of k.tree

abbrev pub is_active_stage : Stage → Bool
is_active_stage Placed = false
is_active_stage stage = true

-- the session's transaction has no place yet
abbrev pub is_active : Session → Bool
is_active x = is_active_stage x.stage

abbrev pub is_session : ℕ → Session → Bool
is_session s x = nat_eq x.txn.session s

-- the session of that number, where it has a transaction
abbrev pub session_at : ℕ → List Session → Option Session
session_at s [] = None
session_at s (x ∷ xs) = cond (is_session s x) (Some x) (session_at s xs)

abbrev pub sessions_without : ℕ → List Session → List Session
sessions_without s xs = filter (λ x. not (is_session s x)) xs

-- the session in its place by number
abbrev pub with_session : Session → List Session → List Session
with_session x [] = x ∷ []
with_session x (y ∷ ys) = cond (nat_lt x.txn.session y.txn.session) (x ∷ y ∷ ys) (y ∷ with_session x ys)

-- the sessions, that one changed
abbrev pub with_change : ℕ → (Session → Session) → List Session → List Session
with_change s change xs = map (λ x. cond (is_session s x) (change x) x) xs

abbrev pub at_stage : Stage → Session → Session
at_stage stage x = record x { stage = stage }

-- the sessions, that one at the stage
abbrev pub staged : ℕ → Stage → List Session → List Session
staged s stage xs = with_change s (at_stage stage) xs

-- the rectangles that operations looked at
abbrev pub area_of : Part → List Rectangle
area_of (Id id) = []
area_of (Area rect) = rect ∷ []

abbrev pub searched : List Answered → List Rectangle
searched pairs = flat_map (λ p. area_of (part_of p.op)) pairs

-- the lock of a row, by the number of the transaction
abbrev pub lock_of : Session → Row → Lock
lock_of x row = record { txn = x.txn.number; name = row.name; mode = row.mode }

-- the locks that transactions hold to their end
abbrev pub locks_of : List Session → List Row → List Lock
locks_of xs rows = flat_map (λ x. map (lock_of x) (filter (is_lock_of x.txn.session ToTheEnd) rows)) xs
