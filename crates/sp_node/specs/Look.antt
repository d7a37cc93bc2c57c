-- What stands under a number.
use Rattle.std.specs.Prelude.{ℕ, ◌<◌, List, [], ◌∷◌, Option, Some, None, cond, nat_eq, ltb, slice_index_or}
use Rattle.std.specs.List.{AllByRecursion}
use Rattle.std.specs.Map.{lookup}
use Rattle.sp_node.specs.declared.node.Entry.{Entry}
use Rattle.sp_node.specs.declared.node.Node.{Node}
use Rattle.sp_node.specs.declared.node.Node.TheVariants.{Leaf, Inner}

abbrev pub look : List (ℕ × Node) → ℕ → Option Node
look nodes number = lookup (nat_eq number) nodes

abbrev pub number_at : List (ℕ × Node) → ℕ → ℕ
number_at nodes i = let pair = slice_index_or nodes i (0, Leaf []) in pair.0

-- the numbers rise
abbrev pub IsAscending : List (ℕ × Node) → Type 0
IsAscending [] = Unit {0}
IsAscending (n ∷ ns) = AllByRecursion (λ m. n.0 < m.0) ns × IsAscending ns

-- the node under its number, in place of one that stood there
abbrev pub put_node : List (ℕ × Node) → ℕ → Node → List (ℕ × Node)
put_node [] k n = (k, n) ∷ []
put_node (x ∷ xs) k n = cond (ltb x.0 k) (x ∷ put_node xs k n) ((k, n) ∷ cond (nat_eq k x.0) xs (x ∷ xs))

-- without the node of this number
abbrev pub take_out : List (ℕ × Node) → ℕ → List (ℕ × Node)
take_out [] k = []
take_out (x ∷ xs) k = cond (nat_eq k x.0) (take_out xs k) (x ∷ take_out xs k)

abbrev pub entries_of_node : Node → List Entry
entries_of_node (Leaf es) = es
entries_of_node (Inner cs) = []

abbrev pub entries_in : Option Node → List Entry
entries_in None = []
entries_in (Some n) = entries_of_node n
