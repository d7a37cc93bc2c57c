-- What an operation of a transaction does to the entries of a tree.
use Rattle.std.specs.Prelude.{ℕ, List, map, filter}
use Rattle.std.specs.List.Sorted.{IsPermutation, IsStrictlyIncreasing}
use Rattle.sp_rect.specs.declared.operation.Op.{Op}
use Rattle.sp_node.specs.declared.node.Entry.{Entry}
use Rattle.sp_node.specs.declared.marks.Marks.{Marks}
use Rattle.sp_protection.specs.Effects.{is_changed, marks_by}

-- an entry's number, and the marks that the operation gives it
abbrev pub mark_of : ℕ → Op → Entry → ℕ × Marks
mark_of txn op e = (e.number, marks_by txn op e.marks)

-- the entries that the operation changes, each once, with their new marks, by ascending number
pub record AreMarked (es : List Entry) (txn : ℕ) (op : Op) (marked : List (ℕ × Marks)) : Type 0 where
  pub exactly : IsPermutation (map (mark_of txn op) (filter (is_changed txn op) es)) marked
  pub ascending : IsStrictlyIncreasing (map (λ m. m.0) marked)
