-- What a transaction wants on the node that a part of a plan makes.
use Rattle.std.specs.Prelude.{◌≡◌, ℕ, Bool, true, List, [], ◌∷◌, ◌++◌, None, if◌then◌else◌}
use Rattle.std.specs.List.{list_any}
use Rattle.sp_rect.specs.Plane.{Rectangle}
use Rattle.sp_locks.specs.declared.mode.Mode.{Mode}
use Rattle.sp_locks.specs.declared.mode.Mode.TheVariants.{IX, S}
use Rattle.sp_locks.specs.declared.row.Name.{Name}
use Rattle.sp_locks.specs.declared.row.Name.TheVariants.{Granule as OnGranule}
use Rattle.sp_node.specs.declared.node.Node.{Node}
use Rattle.sp_node.specs.declared.plan.Part.{Part}
use Rattle.sp_node.specs.Among.{Among}
use Rattle.sp_node.specs.Look.{look, entries_in}
use Rattle.sp_node.specs.Marks.{is_marked}
use Rattle.sp_node.specs.Plan.{number_of, content}
use Rattle.sp_granule.specs.Granules.{Granule, IsMeeting}
use Rattle.sp_ops.specs.declared.wants.Want.{Want}

-- where the tree lacks the number: IX on a leaf that has an entry with the transaction's mark, and S on what meets a rectangle that it searched
pub data PartWant (nodes : List (ℕ × Node)) (gs' : List Granule) (txn : ℕ) (searches : List Rectangle) (part : Part) : Name → Mode → Type 0 where
  Owns : look nodes (number_of part) ≡ None → list_any (is_marked txn) (entries_in (content part)) ≡ true → PartWant nodes gs' txn searches part (OnGranule (number_of part)) IX
  Searched : (rect : Rectangle) → look nodes (number_of part) ≡ None → Among rect searches → IsMeeting gs' rect (number_of part) → PartWant nodes gs' txn searches part (OnGranule (number_of part)) S

-- what is wanted on a name: IX for an own mark, and S for a search
abbrev pub modes_on : Name → Bool → Bool → List Want
modes_on name own met = (if own then record { name = name; mode = IX } ∷ [] else []) ++ (if met then record { name = name; mode = S } ∷ [] else [])
