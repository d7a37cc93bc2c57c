-- Room for marks.
use Rattle.std.specs.Prelude.{ℕ, List}
use Rattle.std.specs.List.{AllByRecursion}
use Rattle.sp_node.specs.declared.marks.Marks.{Marks}
use Rattle.sp_node.specs.Known.{IsNoted}

-- the marks of each entry have their room
abbrev pub AreNoted : List (ℕ × ℕ) → List (ℕ × Marks) → Type 0
AreNoted noted marks = AllByRecursion (λ m. IsNoted noted m.0 m.1) marks
