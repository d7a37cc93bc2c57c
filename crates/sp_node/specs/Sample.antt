-- The tree of the tests: two leaves below a root.
use Rattle.std.specs.Prelude.{ℕ, pos, List, [], ◌∷◌}
use Rattle.sp_rect.specs.Plane.{Rectangle, corners}
use Rattle.sp_node.specs.declared.marks.Made.TheVariants.{Committed}
use Rattle.sp_node.specs.declared.marks.Ended.TheVariants.{Nobody}
use Rattle.sp_node.specs.declared.marks.Draft.TheVariants.{None as NoDraft}
use Rattle.sp_node.specs.declared.node.Child.{Child}
use Rattle.sp_node.specs.declared.node.Entry.{Entry}
use Rattle.sp_node.specs.declared.node.Node.TheVariants.{Leaf, Inner}
use Rattle.sp_node.specs.declared.node.Shape.{Shape}
use Rattle.sp_node.specs.declared.plan.Part.TheVariants.{Now}
use Rattle.sp_node.specs.declared.plan.Plan.{Plan}

abbrev pub sample_shape : Shape
sample_shape = record { max = 4; min = 2 }

-- a committed entry with the value a, whose id is its number
abbrev pub sample_entry : ℕ → Rectangle → Entry
sample_entry number rect = record { number = number; id = number; rect = rect; value = 97 ∷ []; marks = record { made = Committed; ended = Nobody; draft = NoDraft } }

abbrev pub square : ℕ → ℕ → ℕ → ℕ → Rectangle
square x1 y1 x2 y2 = corners (pos x1) (pos y1) (pos x2) (pos y2)

abbrev pub sample_left : List Entry
sample_left = sample_entry 1 (square 0 0 2 2) ∷ sample_entry 2 (square 8 8 10 10) ∷ sample_entry 5 (square 4 4 6 6) ∷ []

abbrev pub sample_right : List Entry
sample_right = sample_entry 3 (square 100 0 102 2) ∷ sample_entry 4 (square 108 8 110 10) ∷ []

abbrev pub sample_root : List Child
sample_root = record { rect = square 0 0 10 10; node = 1 } ∷ record { rect = square 100 0 110 10; node = 2 } ∷ []

-- the plan that makes the tree of an empty one
abbrev pub sample_plan : Plan
sample_plan = record { parts = Now 1 (Leaf sample_left) ∷ Now 2 (Leaf sample_right) ∷ Now 3 (Inner sample_root) ∷ []; root = 3; next = 4 }
