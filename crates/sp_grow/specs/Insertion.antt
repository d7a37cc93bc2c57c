-- What an insertion leaves of a node, on nested trees with numbers and positions.
use Rattle.std.specs.Prelude.{◌≡◌, ℕ, suc, ◌+◌, ◌<◌, ◌≤◌, List, [], ◌∷◌, ◌++◌, length, Some}
use Rattle.sp_rect.specs.Inside.{bound_of}
use Rattle.sp_node.specs.declared.node.Shape.{Shape}
use Rattle.sp_node.specs.Nested.{Member, Body, Branch, rects, rect_of}
use Rattle.sp_split.specs.Split.{Splits}
use Rattle.sp_grow.specs.Chosen.{IsChosen}
use Rattle.sp_grow.specs.Members.{pick}

-- what is left of a node: one node, or two after a split
pub data Outcome (B : Type 0) : Type 0 where
  one : Branch B → Outcome B
  two : Branch B → Branch B → Outcome B

-- the first node in place of the child; the second at the end of the list
abbrev pub with_outcome : {B : Type 0} → List (Branch B) → Outcome B → List (Branch B) → List (Branch B)
with_outcome front (one a) back = front ++ a ∷ back
with_outcome front (two a b) back = front ++ a ∷ (back ++ b ∷ [])

-- the branch is a node of this number with these members, and its rectangle is their bound
pub record IsNode (level : ℕ) (b : Branch (Body level)) (number : ℕ) (members : Body level) : Type 0 where
  pub named : b.number ≡ number
  pub has : b.body ≡ members
  pub bounds : bound_of (rects level b.body) ≡ Some b.rect

-- A node with these members. Of too many the quadratic split makes two nodes: the first group keeps the
-- number, the second gets the next one.
abbrev pub Settles : Shape → (level number next : ℕ) → Body level → Outcome (Body level) → ℕ → Type 0
Settles shape level number next members (one a) next' = (length members ≤ shape.max) × IsNode level a number members × (next' ≡ next)
Settles shape level number next members (two a b) next' =
    (first : List ℕ) × (second : List ℕ) × (shape.max < length members) × Splits (rects level members) shape.min first second × IsNode level a number (pick members first) × IsNode level b next (pick members second) × (next' ≡ next + 1)

-- The member goes to the end of a node of its level, which is chosen from level to level; then each node above
-- gets what is left of its child. An entry is a member of a node of level 0.
pub data Grows (shape : Shape) (k : ℕ) (x : Member k) : (level number next : ℕ) → Body level → Outcome (Body level) → ℕ → Type 0 where
  here : {number next : ℕ} {body : Body k} {outcome : Outcome (Body k)} {next' : ℕ} → Settles shape k number next (body ++ x ∷ []) outcome next' → Grows shape k x k number next body outcome next'
  below : {level number next : ℕ} {branches : Body (suc level)} {outcome : Outcome (Body (suc level))} {next' : ℕ} (front : List (Branch (Body level))) (b : Branch (Body level)) (back : List (Branch (Body level))) (under : Outcome (Body level)) (mid : ℕ) → branches ≡ front ++ b ∷ back
      → IsChosen (rects (suc level) front) b.rect (rects (suc level) back) (rect_of k x) → Grows shape k x level b.number next b.body under mid → Settles shape (suc level) number mid (with_outcome front under back) outcome next' → Grows shape k x (suc level) number next branches outcome next'
