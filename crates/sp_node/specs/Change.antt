-- A tree in which entries are changed where they stand.
use Rattle.std.specs.Prelude.{◌≡◌, ℕ, List, cond, map, nat_eq}
use Rattle.sp_node.specs.declared.node.Entry.{Entry}
use Rattle.sp_node.specs.declared.node.Node.{Node}
use Rattle.sp_node.specs.declared.node.Node.TheVariants.{Leaf, Inner}
use Rattle.sp_node.specs.Table.{Table}
use Rattle.sp_node.specs.Plan.{Roomy}

-- the change, at the entry of this number alone
abbrev pub at_number : ℕ → (Entry → Entry) → Entry → Entry
at_number number change e = cond (nat_eq number e.number) (change e) e

-- a node with its entries changed
abbrev pub node_with : (Entry → Entry) → Node → Node
node_with change (Leaf es) = Leaf (map change es)
node_with change (Inner cs) = Inner cs

abbrev pub nodes_with : (Entry → Entry) → List (ℕ × Node) → List (ℕ × Node)
nodes_with change nodes = map (λ n. (n.0, node_with change n.1)) nodes

-- the tree with its entries changed
abbrev pub table_with : (Entry → Entry) → Table → Table
table_with change t = record { shape = t.shape; root = t.root; next = t.next; nodes = nodes_with change t.nodes }

-- the change leaves number, id and rectangle of an entry
pub record Keeps (change : Entry → Entry) : Type 0 where
  pub number : (e : Entry) → (change e).number ≡ e.number
  pub id : (e : Entry) → (change e).id ≡ e.id
  pub rect : (e : Entry) → (change e).rect ≡ e.rect

-- the same with room, which stays
abbrev pub roomy_with : (Entry → Entry) → Roomy → Roomy
roomy_with change r = record { table = table_with change r.table; node_room = r.node_room; entry_room = r.entry_room; known = r.known; noted = r.noted }
