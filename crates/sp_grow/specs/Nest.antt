-- A tree as its root, and the insertion of a member of any level into it.
use Rattle.std.specs.Prelude.{◌≡◌, ℕ, suc, ◌+◌, [], ◌∷◌}
use Rattle.sp_node.specs.declared.node.Shape.{Shape}
use Rattle.sp_node.specs.Nested.{Member, Body}
use Rattle.sp_grow.specs.Insertion.{Outcome, one, two, Grows}

-- a tree as its root, with the next unused number
pub record Nest : Type 0 where
  pub level : ℕ
  pub number : ℕ
  pub next : ℕ
  pub body : Body level

abbrev pub nest : (level number next : ℕ) → Body level → Nest
nest level number next body = record { level = level; number = number; next = next; body = body }

-- the tree is what is left of the old root, or a new root above its two halves, with the next number
abbrev pub IsRootOf : (level : ℕ) → Outcome (Body level) → ℕ → Nest → Type 0
IsRootOf level (one a) next n = n ≡ nest level a.number next a.body
IsRootOf level (two a b) next n = n ≡ nest (suc level) next (next + 1) (a ∷ b ∷ [])

-- the member is inserted at its level
pub record IsInserted (shape : Shape) (k : ℕ) (x : Member k) (n n' : Nest) : Type 0 where
  pub outcome : Outcome (Body n.level)
  pub next : ℕ
  pub grows : Grows shape k x n.level n.number n.next n.body outcome next
  pub root : IsRootOf n.level outcome next n'
