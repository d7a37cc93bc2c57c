-- What the end of a transaction changes: the entries that it marked, and no other.
use Rattle.std.specs.Prelude.{◌≡◌, ℕ, true, false, nat_eq, List, [], ◌∷◌}
use Rattle.std.specs.List.{IsDistinct}
use Rattle.sp_node.specs.declared.node.Entry.{Entry}
use Rattle.sp_node.specs.Among.{Among}
use Rattle.sp_node.specs.Change.{at_number, table_with}
use Rattle.sp_node.specs.Marks.{is_made_by, is_ended_by, is_draft_of, is_done, is_marked}
use Rattle.sp_node.specs.Table.{Table, entries_of}
use Rattle.sp_model.specs.declared.session.Session.{Session}
use Rattle.sp_model.specs.State.{Kernel, entries_in, is_active}

-- nothing on the entry is of the transaction, whether it is dead or not
abbrev pub IsUntouched : ℕ → Entry → Type 0
IsUntouched t e = (is_made_by t e.marks.made ≡ false) × (is_ended_by t e.marks.ended ≡ false) × (is_draft_of t e.marks.draft ≡ false)

-- nothing on a dead entry is of an active transaction
abbrev pub DeadUntouched : List Session → List Entry → Type 0
DeadUntouched sessions es = (x : Session) (e : Entry) → Among x sessions → is_active x ≡ true → Among e es → is_done e.marks.ended ≡ true → IsUntouched x.txn.number e

abbrev pub IsDeadUntouched : Kernel → Type 0
IsDeadUntouched k = DeadUntouched k.sessions (entries_in k)

-- the entries of these numbers changed, one after the other
abbrev pub one_by_one : (Entry → Entry) → List ℕ → Table → Table
one_by_one change [] t = t
one_by_one change (n ∷ ns) t = one_by_one change ns (table_with (at_number n change) t)

-- the numbers are distinct, and those of the entries that bear a mark of the transaction
pub record AreNumbersMarked (t : Table) (txn : ℕ) (numbers : List ℕ) : Type 0 where
  pub once : IsDistinct nat_eq numbers
  pub marked : (e : Entry) → Among e (entries_of t) → Among e.number numbers → is_marked txn e ≡ true
  pub all : (e : Entry) → Among e (entries_of t) → is_marked txn e ≡ true → Among e.number numbers
