-- Lists without members.
use Rattle.std.specs.Prelude.{Bool, true, false, List, [], ◌∷◌}

-- the list has no member
abbrev pub is_empty : {T : Type 0} → List T → Bool
is_empty [] = true
is_empty (x ∷ xs) = false
