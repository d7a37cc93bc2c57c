-- A tree with changes on it.
use Rattle.std.specs.Prelude.{◌≡◌, ◌<◌, ℕ, List, [], ◌∷◌, length, slice_index_or, Option, Some, None, cond, nat_eq, ltb}
use Rattle.sp_node.specs.declared.plan.Part.{Part}
use Rattle.sp_node.specs.declared.plan.Part.TheVariants.{Gone}
use Rattle.sp_node.specs.declared.plan.Plan.{Plan}
use Rattle.sp_node.specs.Plan.{number_of, planned}
use Rattle.sp_node.specs.Table.{Table}

pub record Overlay : Type 0 where
  pub before : Table
  pub plan : Plan

-- the tree as it stands then
abbrev pub table_of : Overlay → Table
table_of o = planned o.before o.plan

abbrev pub unchanged : Table → Overlay
unchanged t = record { before = t; plan = record { parts = []; root = t.root; next = t.next } }

-- the first part of this number
abbrev pub part_of : List Part → ℕ → Option Part
part_of [] k = None
part_of (p ∷ ps) k = cond (nat_eq k (number_of p)) (Some p) (part_of ps k)

-- the number of the part at this place
abbrev pub number_in : List Part → ℕ → ℕ
number_in ps j = number_of (slice_index_or ps j (Gone 0))

-- at this place stands a part of this number
abbrev pub IsAt : List Part → ℕ → ℕ → Type 0
IsAt ps at number = (at < length ps) × (number_in ps at ≡ number)

-- the part among the others, in place of one of the same number
abbrev pub renewed : List Part → Part → List Part
renewed [] p = p ∷ []
renewed (x ∷ xs) p = cond (ltb (number_of x) (number_of p)) (x ∷ renewed xs p) (p ∷ cond (nat_eq (number_of p) (number_of x)) xs (x ∷ xs))

-- all of the others so, from the last
abbrev pub all_renewed : List Part → List Part → List Part
all_renewed xs [] = xs
all_renewed xs (p ∷ ps) = renewed (all_renewed xs ps) p

-- with one part more
abbrev pub with_one : Overlay → Part → Overlay
with_one o p = record { before = o.before; plan = record { parts = renewed o.plan.parts p; root = o.plan.root; next = o.plan.next } }

abbrev pub with_root : Overlay → ℕ → Overlay
with_root o root = record { before = o.before; plan = record { parts = o.plan.parts; root = root; next = o.plan.next } }

-- with the parts of a plan, and its root and next number
abbrev pub with_plan : Overlay → Plan → Overlay
with_plan o plan = record { before = o.before; plan = record { parts = all_renewed o.plan.parts plan.parts; root = plan.root; next = plan.next } }
