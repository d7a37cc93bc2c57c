-- The kernel that opening gives.
use Rattle.std.specs.Prelude.{◌≡◌, ℕ, ◌+◌, List, [], ◌∷◌, ◌++◌, length, None}
use Rattle.sp_rect.specs.declared.record.Record.{Record}
use Rattle.sp_node.specs.declared.marks.Made.TheVariants.{Committed}
use Rattle.sp_node.specs.declared.marks.Ended.TheVariants.{Nobody}
use Rattle.sp_node.specs.declared.marks.Draft.TheVariants.{None as NoDraft}
use Rattle.sp_node.specs.declared.node.Entry.{Entry}
use Rattle.sp_node.specs.declared.node.Shape.{Shape}
use Rattle.sp_node.specs.Table.{Table, empty_tree}
use Rattle.sp_model.specs.State.{Kernel}
use Rattle.sp_model.specs.Plans.{IsInserted}

-- the committed entry of a record
abbrev pub committed_entry : ℕ → Record → Entry
committed_entry number r = record { number = number; id = r.id; rect = r.rect; value = r.value; marks = record { made = Committed; ended = Nobody; draft = NoDraft } }

-- the tree after the insertion of the records, one after the other, into the empty tree, with entry numbers from 1
pub data IsRebuilt (shape : Shape) : List Record → Table → Type 0 where
  Empty : IsRebuilt shape [] (empty_tree shape)
  More : (records : List Record) (r : Record) (t t' : Table) → IsRebuilt shape records t → IsInserted t (committed_entry (length records + 1) r) t' → IsRebuilt shape (records ++ r ∷ []) t'

-- a kernel over these records, in which nothing has happened
pub record IsOpened (shape : Shape) (records : List Record) (k : Kernel) : Type 0 where
  pub tree : IsRebuilt shape records k.tree
  pub next_entry : k.next_entry ≡ length records + 1
  pub next_txn : k.next_txn ≡ 1
  pub locks : k.locks ≡ []
  pub sessions : k.sessions ≡ []
  pub dead : k.dead ≡ []
  pub queue : k.queue ≡ []
  pub flight : k.flight ≡ []
  pub calls : k.calls ≡ 0
  pub base : k.base ≡ records
  pub commits : k.commits ≡ []
  pub ended : k.ended ≡ []
  pub stopped : k.stopped ≡ None
