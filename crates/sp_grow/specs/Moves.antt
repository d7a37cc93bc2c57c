-- Which leaf an entry stands in.
use Rattle.std.specs.Prelude.{◌≡◌, ℕ, zero, suc, ◌≤◌}
use Rattle.sp_node.specs.declared.node.Entry.{Entry}
use Rattle.sp_node.specs.Among.{Among}
use Rattle.sp_node.specs.Nested.{Body, Branch}
use Rattle.sp_node.specs.Look.{look}
use Rattle.sp_node.specs.Table.{Table, body_at, level_of}

-- the leaf of this number, at or below the node, has the entry
abbrev pub InLeaf : (level number : ℕ) → Body level → Entry → ℕ → Type 0
InLeaf zero number es f leaf = (leaf ≡ number) × Among f es
InLeaf (suc level) number branches f leaf = (b : Branch (Body level)) × Among b branches × InLeaf level b.number b.body f leaf

-- the same in a tree
abbrev pub InLeafOf : Table → Entry → ℕ → Type 0
InLeafOf t f leaf = InLeaf (level_of t) t.root (body_at (look t.nodes) (level_of t) t.root) f leaf

-- from one tree to another the entry goes to a leaf whose number the first tree had not used
pub record Leaves (t t' : Table) (f : Entry) (leaf : ℕ) : Type 0 where
  pub was : InLeafOf t f leaf
  pub other : ℕ
  pub is : InLeafOf t' f other
  pub new : t.next ≤ other
