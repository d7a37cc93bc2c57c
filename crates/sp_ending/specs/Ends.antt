-- What the end of a transaction makes of the entries.
use Rattle.std.specs.Prelude.{◌≡◌, ℕ, ◌<◌, ◌++◌, true, false, List, [], ◌∷◌, filter, length, take}
use Rattle.sp_rect.specs.Serial.{Serial}
use Rattle.sp_node.specs.declared.node.Entry.{Entry}
use Rattle.sp_node.specs.Among.{Among}
use Rattle.sp_node.specs.Change.{table_with}
use Rattle.sp_node.specs.Marks.{is_marked, settled, undone}
use Rattle.sp_node.specs.Table.{Table, entries_of}
use Rattle.sp_model.specs.declared.session.Session.{Session}
use Rattle.sp_model.specs.State.{Kernel, entries_in, is_active}
use Rattle.sp_model.specs.Refusals.{under_way}
use Rattle.sp_model.specs.Moves.{placed_commit, placed_each}
use Rattle.sp_model.specs.Stepped.{IsAt}
use Rattle.sp_model.proofs.Bare.{Bare}
use Rattle.sp_model.proofs.Flushing.{as_if}
use Rattle.sp_model.specs.Soundness.{AreAscending, DeadListed}
use Rattle.sp_model.specs.Unmarked.{IsDeadUntouched}
use Rattle.sp_ending.specs.declared.marks.Ending.{Ending}
use Rattle.sp_ending.specs.declared.marks.Ending.TheVariants.{Commit, Rollback}
use Rattle.sp_ending.specs.Tail.{IsTail}

-- an entry after the transaction's end
unfoldable pub ended : Ending → ℕ → Entry → Entry
ended Commit txn e = settled txn e
ended Rollback txn e = undone txn e

-- the end changes nothing on what bears no mark
abbrev pub AreClean : Ending → ℕ → List Entry → Type 0
AreClean ending txn es = (e : Entry) → Among e es → is_marked txn e ≡ false → ended ending txn e ≡ e

-- one entry less bears a mark, and what the end makes of all entries is the same
pub record EndsOne (ending : Ending) (txn from : ℕ) (t : Table) (dead : List ℕ) (t' : Table) (dead' : List ℕ) : Type 0 where
  pub rest : table_with (ended ending txn) t' ≡ table_with (ended ending txn) t
  pub clean : AreClean ending txn (entries_of t) → AreClean ending txn (entries_of t')
  pub tail : (before : List Entry) → IsTail dead from before (entries_of t) → IsTail dead' from before (entries_of t')
  pub front : take from dead' ≡ take from dead
  pub fewer : length (filter (is_marked txn) (entries_of t')) < length (filter (is_marked txn) (entries_of t))

-- what the end of a transaction rests on, whatever the locks are
pub record MayEnd (k : Kernel) : Type 0 where
  pub ascending : AreAscending k.sessions
  pub listed : DeadListed k.dead (entries_in k)
  pub untouched : IsDeadUntouched k

-- what the place of a session's commit rests on: its transaction is active, with no operation under way, and its commit serial with those before
pub record MayPlace (s : ℕ) (k : Kernel) : Type 0 where
  pub session : Session
  pub stands : IsAt k s session
  pub active : is_active session ≡ true
  pub quiet : under_way session.stage ≡ 0
  pub serial : Serial k.base (k.commits ++ placed_commit session k ∷ [])
  pub ascending : AreAscending k.sessions
  pub untouched : IsDeadUntouched k

-- a kernel while the rest of the batch is to take its places: it is sound as if that were the batch, and the places of the rest make of it what those of the whole batch make of the kernel before, but for the dead list
pub record Placing (before : Kernel) (rest : List ℕ) (from : ℕ) (k : Kernel) : Type 0 where
  pub sound : Bare (as_if before rest k)
  pub untouched : IsDeadUntouched k
  pub tail : IsTail k.dead from (entries_in before) (entries_in k)
  pub front : take from k.dead ≡ before.dead
  pub left : placed_each rest (record k { dead = before.dead }) ≡ placed_each before.flight before
