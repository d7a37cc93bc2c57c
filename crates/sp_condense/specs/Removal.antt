-- The removal of an entry, on nested trees with numbers and positions, after Guttman, "R-Trees", SIGMOD 1984. The
-- order of the orphans and the repetition at the root are fixed here; Guttman's paper leaves both open.
use Rattle.std.specs.Prelude.{◌≡◌, ◌≢◌, ℕ, zero, suc, ◌+◌, ◌^◌, ◌<◌, ◌≤◌, ◌⊎◌, List, [], ◌∷◌, ◌++◌, map, length}
use Rattle.sp_node.specs.declared.node.Entry.{Entry}
use Rattle.sp_node.specs.declared.node.Shape.{Shape}
use Rattle.sp_node.specs.Nested.{Member, Body, Branch}
use Rattle.sp_node.specs.Among.{Among}
use Rattle.sp_node.specs.Look.{look, IsAscending}
use Rattle.sp_node.specs.Table.{Table, IsValid, body_at, level_of, entries_of}
use Rattle.sp_grow.specs.Insertion.{IsNode}
use Rattle.sp_grow.specs.Nest.{Nest, nest, IsInserted}

-- a member of a dropped node, and the level of that node
pub record Orphan : Type 0 where
  pub level : ℕ
  pub member : Member level

abbrev pub orphan : (level : ℕ) → Member level → Orphan
orphan level x = record { level = level; member = x }

-- the members of a dropped node, in the order in which they stood
abbrev pub orphans_of : (level : ℕ) → Body level → List Orphan
orphans_of level members = map (orphan level) members

-- What a removal leaves in a node, and the orphans of the nodes that it drops below: those of higher levels first.
-- The entry leaves its leaf. Going up, a node with too few members is dropped, and its members are orphans; another
-- one keeps its place, and its rectangle is tightened.
abbrev pub Removes : Shape → (level : ℕ) → Body level → Entry → Body level → List Orphan → Type 0
Removes shape zero es e rest orphans = (front : List Entry) × (back : List Entry) × (es ≡ front ++ e ∷ back) × (rest ≡ front ++ back) × (orphans ≡ [])
Removes shape (suc level) branches e rest orphans =
    (front : List (Branch (Body level))) × (b : Branch (Body level)) × (back : List (Branch (Body level))) × (left : Body level) × (below : List Orphan) × (branches ≡ front ++ b ∷ back) × Removes shape level b.body e left below
    × (((shape.min ≤ length left) × ((c : Branch (Body level)) × IsNode level c b.number left × (rest ≡ front ++ c ∷ back)) × (orphans ≡ below))
    ⊎ ((length left < shape.min) × (rest ≡ front ++ back) × (orphans ≡ orphans_of level left ++ below)))

-- the orphans are inserted, one after another
abbrev pub Inserts : Shape → List Orphan → Nest → Nest → Type 0
Inserts shape [] n n' = n' ≡ n
Inserts shape (o ∷ os) n n' = (m : Nest) × IsInserted shape o.level o.member n m × Inserts shape os m n'

-- a root that is no leaf and has one child is replaced by that child, as often as that holds
abbrev pub collapsed : (level number next : ℕ) → Body level → Nest
collapsed zero number next es = nest 0 number next es
collapsed (suc level) number next [] = nest (suc level) number next []
collapsed (suc level) number next (b ∷ []) = collapsed level b.number next b.body
collapsed (suc level) number next (b ∷ c ∷ bs) = nest (suc level) number next (b ∷ c ∷ bs)

-- the tree as a table
pub record IsNest (t : Table) (n : Nest) : Type 0 where
  pub root : t.root ≡ n.number
  pub next : t.next ≡ n.next
  pub level : level_of t ≡ n.level
  pub body : body_at (look t.nodes) n.level t.root ≡ n.body

-- t' is t after the removal of e
pub record IsRemovedFrom (t : Table) (e : Entry) (t' : Table) : Type 0 where
  pub rest : Body (level_of t)
  pub orphans : List Orphan
  pub removes : Removes t.shape (level_of t) (body_at (look t.nodes) (level_of t) t.root) e rest orphans
  pub full : Nest
  pub inserts : Inserts t.shape orphans (nest (level_of t) t.root t.next rest) full
  pub is : IsNest t' (collapsed full.level full.number full.next full.body)
  pub shape : t'.shape ≡ t.shape

-- t' is t after the removal of the entry of this number
pub record IsRemoved (t : Table) (number : ℕ) (t' : Table) : Type 0 where
  pub entry : Entry
  pub named : entry.number ≡ number
  pub removed : IsRemovedFrom t entry t'

-- t' is a valid tree with the entries of t but the one of this number, with no more than 2^32 new nodes
pub record KeepsOthers (t : Table) (number : ℕ) (t' : Table) : Type 0 where
  pub valid : IsValid t'
  pub ascending : IsAscending t'.nodes
  pub onward : t.next ≤ t'.next
  pub few : t'.next ≤ t.next + 2 ^ 32
  pub back : (e : Entry) → Among e (entries_of t') → Among e (entries_of t) × (e.number ≢ number)
  pub there : (e : Entry) → Among e (entries_of t) → e.number ≢ number → Among e (entries_of t')
