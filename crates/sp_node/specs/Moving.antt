-- Which entries of the changed leaves stay where they are, and which leave and arrive.
use Rattle.std.specs.Prelude.{ℕ, suc, Bool, ◌&&◌, List, [], ◌∷◌, Option, Some, cond, drop, nat_eq}
use Rattle.std.specs.List.{list_any}
use Rattle.sp_node.specs.declared.node.Entry.{Entry}
use Rattle.sp_node.specs.declared.node.Node.{Node}
use Rattle.sp_node.specs.declared.plan.Part.{Part}
use Rattle.sp_node.specs.Index.{has_number}
use Rattle.sp_node.specs.Look.{look, entries_in}
use Rattle.sp_node.specs.Plan.{number_of, content}

-- how many entries in front of the two lists have the same numbers and ids
abbrev pub unmoved : List Entry → List Entry → ℕ
unmoved [] after = 0
unmoved (e ∷ es) [] = 0
unmoved (e ∷ es) (f ∷ fs) = cond (nat_eq e.number f.number && nat_eq e.id f.id) (suc (unmoved es fs)) 0

-- the entries of the part's leaf before and after it
abbrev pub before_of : List (ℕ × Node) → Part → List Entry
before_of nodes p = entries_in (look nodes (number_of p))

abbrev pub after_of : Part → List Entry
after_of p = entries_in (content p)

-- the entry stands in the part's leaf before, behind what stays in front
abbrev pub leaves_by : List (ℕ × Node) → ℕ → Part → Bool
leaves_by nodes q p = has_number (drop (unmoved (before_of nodes p) (after_of p)) (before_of nodes p)) q

-- the entry stands in the part's leaf after, behind what stays in front
abbrev pub arrives_by : List (ℕ × Node) → ℕ → Part → Bool
arrives_by nodes q p = has_number (drop (unmoved (before_of nodes p) (after_of p)) (after_of p)) q

-- the entry leaves by one of the parts
abbrev pub is_leaving : List (ℕ × Node) → List Part → ℕ → Bool
is_leaving nodes ps q = list_any (leaves_by nodes q) ps

-- the leaf in which the entry arrives, and else what was known before
abbrev pub arrived : List (ℕ × Node) → List Part → ℕ → Option ℕ → Option ℕ
arrived nodes [] q before = before
arrived nodes (p ∷ ps) q before = cond (arrives_by nodes q p) (Some (number_of p)) (arrived nodes ps q before)
