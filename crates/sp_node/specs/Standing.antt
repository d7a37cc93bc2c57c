-- Where nodes and entries stand in a tree.
use Rattle.std.specs.Prelude.{◌≡◌, ℕ, false, map, nat_eq}
use Rattle.std.specs.List.{list_any}
use Rattle.sp_node.specs.declared.node.Entry.{Entry}
use Rattle.sp_node.specs.declared.node.Node.{Node}
use Rattle.sp_node.specs.Among.{Among}
use Rattle.sp_node.specs.Look.{entries_of_node}
use Rattle.sp_node.specs.Nested.{Place, node}
use Rattle.sp_node.specs.Table.{Table, places_of, entries_of}

-- the node is that of the tree under this number
pub record IsNodeOf (t : Table) (number : ℕ) (n : Node) : Type 0 where
  pub place : Place
  pub among : Among place (places_of t)
  pub named : place.number ≡ number
  pub is : n ≡ node place.level place.body

-- no node of the tree has the number
abbrev pub HasNoNode : Table → ℕ → Type 0
HasNoNode t number = list_any (nat_eq number) (map (λ p. p.number) (places_of t)) ≡ false

-- the entry is that of the tree with this number
pub record IsEntryOf (t : Table) (number : ℕ) (e : Entry) : Type 0 where
  pub among : Among e (entries_of t)
  pub named : e.number ≡ number

-- no entry of the tree has the number
abbrev pub HasNoEntry : Table → ℕ → Type 0
HasNoEntry t number = list_any (nat_eq number) (map (λ e. e.number) (entries_of t)) ≡ false

-- the leaf of this number has the entry of the other
pub record IsLeafOf (t : Table) (number leaf : ℕ) : Type 0 where
  pub place : Place
  pub among : Among place (places_of t)
  pub named : place.number ≡ leaf
  pub entry : Entry
  pub has : Among entry (entries_of_node (node place.level place.body))
  pub is : entry.number ≡ number
