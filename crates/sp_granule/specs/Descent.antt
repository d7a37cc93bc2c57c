-- The granule of a point: down from the root, at each inner node to the first child that has the point.
use Rattle.std.specs.Prelude.{ℕ, zero, suc, List, [], ◌∷◌, Option, Some, None, cond}
use Rattle.sp_rect.specs.Plane.{Point, holds}
use Rattle.sp_node.specs.declared.node.Child.{Child}
use Rattle.sp_node.specs.Look.{look}
use Rattle.sp_node.specs.Nested.{Body, Branch}
use Rattle.sp_node.specs.Table.{Table, body_at, level_of}

-- what f gives of the first child that has the point, and else this number
abbrev pub first_of : {B : Type 0} → Point → ℕ → (Branch B → ℕ) → List (Branch B) → ℕ
first_of p number f [] = number
first_of p number f (b ∷ bs) = cond (holds b.rect p) (f b) (first_of p number f bs)

-- the granule that is reached from a node of this level
abbrev pub granule_under : Point → (level : ℕ) → ℕ → Body level → ℕ
granule_under p zero number entries = number
granule_under p (suc level) number branches = first_of p number (λ b. granule_under p level b.number b.body) branches

-- that from the root
unfoldable pub granule_of : Table → Point → ℕ
granule_of t p = granule_under p (level_of t) t.root (body_at (look t.nodes) (level_of t) t.root)

-- the first of the children that has the point
abbrev pub first_child_at : Point → List Child → Option ℕ
first_child_at p [] = None
first_child_at p (c ∷ cs) = cond (holds c.rect p) (Some c.node) (first_child_at p cs)
