-- The first entry of a number, changed.
use Rattle.std.specs.Prelude.{◌≡◌, ℕ, false, List, [], ◌∷◌, take, cond, nat_eq, Some, slice_get}
use Rattle.sp_node.specs.declared.node.Entry.{Entry}
use Rattle.sp_node.specs.declared.node.Node.{Node}
use Rattle.sp_node.specs.declared.node.Node.TheVariants.{Leaf, Inner}
use Rattle.sp_node.specs.declared.node.Change.{Change}
use Rattle.sp_node.specs.declared.node.Change.TheVariants.{Mark, Settle, Undo}
use Rattle.sp_node.specs.Marks.{marked, settled, undone}
use Rattle.sp_node.specs.Known.{IsNoted}
use Rattle.sp_node.specs.Index.{has_number}

-- what a change makes of an entry
abbrev pub changed : Change → Entry → Entry
changed (Mark marks) e = marked marks e
changed (Settle txn) e = settled txn e
changed (Undo txn) e = undone txn e

-- the entry's number is noted under each transaction that the change names in new marks
abbrev pub IsChangeNoted : List (ℕ × ℕ) → ℕ → Change → Type 0
IsChangeNoted noted number (Mark marks) = IsNoted noted number marks
IsChangeNoted noted number (Settle txn) = Unit {0}
IsChangeNoted noted number (Undo txn) = Unit {0}

-- the entries with the first of this number changed
abbrev pub first_changed : ℕ → (Entry → Entry) → List Entry → List Entry
first_changed q change [] = []
first_changed q change (e ∷ es) = cond (nat_eq q e.number) (change e ∷ es) (e ∷ first_changed q change es)

abbrev pub node_first_changed : ℕ → (Entry → Entry) → Node → Node
node_first_changed q change (Leaf es) = Leaf (first_changed q change es)
node_first_changed q change (Inner cs) = Inner cs

-- the nodes with the first under this number changed
abbrev pub first_node_changed : ℕ → (Node → Node) → List (ℕ × Node) → List (ℕ × Node)
first_node_changed k change [] = []
first_node_changed k change (n ∷ ns) = cond (nat_eq k n.0) ((n.0, change n.1) ∷ ns) (n ∷ first_node_changed k change ns)

-- the first entry of this number stands at this place
pub record IsPlaceOf (q : ℕ) (es : List Entry) (at : ℕ) : Type 0 where
  pub entry : Entry
  pub is : slice_get es at ≡ Some entry
  pub named : entry.number ≡ q
  pub first : has_number (take at es) q ≡ false
