-- Which leaf has an entry, by the entry's number.
use Rattle.std.specs.Prelude.{◌≡◌, ℕ, List, [], ◌∷◌, Bool, true, false, ◌||◌, cond, Option, Some, None, nat_eq, IsTrue, ◌↔◌}
use Rattle.std.specs.List.{AllByRecursion}
use Rattle.std.specs.Option.{option_and_then}
use Rattle.sp_node.specs.Look.{look, entries_in, entries_of_node}
use Rattle.sp_node.specs.declared.node.Entry.{Entry}
use Rattle.sp_node.specs.declared.plan.Part.{Part}
use Rattle.sp_node.specs.Plan.{number_of, content}
use Rattle.sp_node.specs.Known.{AreKnown, AreMarksNoted}
use Rattle.sp_node.specs.Marks.{is_marked}
use Rattle.sp_node.specs.declared.node.Node.{Node}

abbrev pub has_number : List Entry → ℕ → Bool
has_number [] q = false
has_number (e ∷ es) q = nat_eq q e.number || has_number es q

-- the first node that has the entry
abbrev pub leaf_with : List (ℕ × Node) → ℕ → Option ℕ
leaf_with [] q = None
leaf_with (n ∷ ns) q = cond (has_number (entries_of_node n.1) q) (Some n.0) (leaf_with ns q)

-- the function tells of each entry number which leaf has it
abbrev pub IsIndex : (ℕ → Option ℕ) → List (ℕ × Node) → Type 0
IsIndex leaf nodes = (q k : ℕ) → (leaf q ≡ Some k) ↔ IsTrue (has_number (entries_in (look nodes k)) q)

abbrev pub entry_in : List Entry → ℕ → Option Entry
entry_in [] q = None
entry_in (e ∷ es) q = cond (nat_eq q e.number) (Some e) (entry_in es q)

-- the entry of this number
abbrev pub entry_of : List (ℕ × Node) → ℕ → Option Entry
entry_of nodes q = option_and_then (λ k. entry_in (entries_in (look nodes k)) q) (leaf_with nodes q)

-- one of the parts names a leaf that has the entry
abbrev pub is_held : List (ℕ × Node) → List Part → ℕ → Bool
is_held nodes [] q = false
is_held nodes (p ∷ ps) q = has_number (entries_in (look nodes (number_of p))) q || is_held nodes ps q

-- the leaf among the parts that has the entry, and else what was known before
abbrev pub noted : List Part → ℕ → Option ℕ → Option ℕ
noted [] q before = before
noted (p ∷ ps) q before = cond (has_number (entries_in (content p)) q) (Some (number_of p)) (noted ps q before)

-- the part that names the node of this number
abbrev pub part_named : List Part → ℕ → Option Part
part_named [] k = None
part_named (p ∷ ps) k = cond (nat_eq k (number_of p)) (Some p) (part_named ps k)

-- the entry passes the test
abbrev pub passes : (Entry → Bool) → Option Entry → Bool
passes test None = false
passes test (Some e) = test e

-- the entry of this number has the id
abbrev pub has_id : ℕ → Option Entry → Bool
has_id id entry = passes (λ e. nat_eq id e.id) entry

-- each entry is known under its id
abbrev pub AreAllKnown : List (ℕ × ℕ) → List (ℕ × Node) → Type 0
AreAllKnown known nodes = (k : ℕ) → AreKnown known (entries_in (look nodes k))

-- each entry is noted under each transaction whose marks it bears
abbrev pub AreAllNoted : List (ℕ × ℕ) → List (ℕ × Node) → Type 0
AreAllNoted noted nodes = (k : ℕ) → AreMarksNoted noted (entries_in (look nodes k))

-- the entry of this number, where there is one, bears no mark of the transaction
abbrev pub IsClear : List (ℕ × Node) → ℕ → ℕ → Type 0
IsClear nodes txn number = (k : ℕ) → AllByRecursion (λ e. nat_eq number e.number ≡ true → is_marked txn e ≡ false) (entries_in (look nodes k))
