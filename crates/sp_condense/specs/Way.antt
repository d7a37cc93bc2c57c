-- The way from the root down to the leaf of an entry. No public clause speaks of it.
use Rattle.std.specs.Prelude.{◌≡◌, ◌≢◌, ℕ, zero, suc, ◌≤◌, true, List, [], ◌∷◌, Option, Some, slice_get}
use Rattle.sp_rect.specs.Plane.{Rectangle, encloses}
use Rattle.sp_node.specs.declared.node.Entry.{Entry}
use Rattle.sp_node.specs.declared.node.Child.{Child}
use Rattle.sp_node.specs.declared.node.Node.{Node}
use Rattle.sp_node.specs.Among.{Among}
use Rattle.sp_node.specs.Index.{has_number}
use Rattle.sp_node.specs.Look.{look, entries_in}
use Rattle.sp_node.specs.Table.{Table, children_in}

-- the positions of children lead from a node to the leaf
abbrev pub Leads : (ℕ → Option Node) → ℕ → List ℕ → ℕ → Type 0
Leads at number [] leaf = number ≡ leaf
Leads at number (i ∷ is) leaf = (c : Child) × (slice_get (children_in (at number)) i ≡ Some c) × Leads at c.node is leaf

-- the leaf stands so many levels below a node, and each rectangle on the way encloses this one
abbrev pub IsBelow : (ℕ → Option Node) → Rectangle → (level : ℕ) → ℕ → ℕ → Type 0
IsBelow at rect zero number leaf = number ≡ leaf
IsBelow at rect (suc level) number leaf = (c : Child) × Among c (children_in (at number)) × (encloses c.rect rect ≡ true) × IsBelow at rect level c.node leaf

-- the leaf stands nowhere so, at most so many levels below the node
abbrev pub IsNotBelow : (ℕ → Option Node) → Rectangle → (steps : ℕ) → ℕ → ℕ → Type 0
IsNotBelow at rect steps number leaf = (level : ℕ) → level ≤ steps → IsBelow at rect level number leaf → ⊥

-- the positions lead from the node to a leaf that has the entry of this number
abbrev pub LeadsTo : Table → ℕ → List ℕ → ℕ → Type 0
LeadsTo t number path entry = (leaf : ℕ) × Leads (look t.nodes) number path leaf × (has_number (entries_in (look t.nodes leaf)) entry ≡ true)

-- no entry of the list has the number
abbrev pub HasNone : List Entry → ℕ → Type 0
HasNone es number = (i : ℕ) (e : Entry) → slice_get es i ≡ Some e → e.number ≢ number
