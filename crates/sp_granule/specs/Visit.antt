-- What a search for granules does at one node.
use Rattle.std.specs.Prelude.{◌≡◌, ◌⊎◌, ℕ, ◌&&◌, List, [], ◌∷◌, ◌++◌, map, filter, reverse, Option, Some, None}
use Rattle.sp_rect.specs.Plane.{Rectangle, IsRectangle, Point, holds, meets}
use Rattle.sp_region.specs.Region.{LeavesAny}
use Rattle.sp_node.specs.declared.node.Child.{Child}
use Rattle.sp_node.specs.declared.node.Node.{Node}
use Rattle.sp_node.specs.declared.node.Node.TheVariants.{Leaf, Inner}
use Rattle.sp_granule.specs.declared.meeting.Waiting.{Waiting}

-- the child waits, with the part of q that lies in its rectangle
pub record IsPart (q : Rectangle) (c : Child) (w : Waiting) : Type 0 where
  pub named : w.node ≡ c.node
  pub valid : IsRectangle w.part
  pub points : (p : Point) → holds w.part p ≡ (holds c.rect p && holds q p)

-- each of the children waits, in order
abbrev pub AreParts : Rectangle → List Child → List Waiting → Type 0
AreParts q [] [] = Unit {0}
AreParts q [] (w ∷ ws) = ⊥
AreParts q (c ∷ cs) [] = ⊥
AreParts q (c ∷ cs) (w ∷ ws) = IsPart q c w × AreParts q cs ws

-- the children that meet q were added, the last one first
pub record AreAdded (q : Rectangle) (children : List Child) (old new : List Waiting) : Type 0 where
  pub parts : List Waiting
  pub added : new ≡ old ++ reverse parts
  pub are_parts : AreParts q (filter (λ c. meets c.rect q) children) parts

-- the number was found exactly where the holes leave a point of the part
abbrev pub IsJudged : Rectangle → List Rectangle → ℕ → List ℕ → List ℕ → Type 0
IsJudged part holes number old new =
    ((new ≡ old ++ number ∷ []) × LeavesAny part holes) ⊎ ((new ≡ old) × (¬ (LeavesAny part holes)))

-- what was found, and what waits, after a look at what the tree has under the number
abbrev pub IsVisited : Option Node → Rectangle → Waiting → List ℕ → List ℕ → List Waiting → List Waiting → Type 0
IsVisited None q w found found' pending pending' = (found' ≡ found) × (pending' ≡ pending)
IsVisited (Some (Leaf entries)) q w found found' pending pending' = (found' ≡ found ++ w.node ∷ []) × (pending' ≡ pending)
IsVisited (Some (Inner children)) q w found found' pending pending' =
    IsJudged w.part (map (λ c. c.rect) children) w.node found found' × AreAdded q children pending pending'
