-- Files in a list of files.
use Rattle.std.specs.Prelude.{◌≡◌, ◌⊎◌, ℕ, List, [], ◌∷◌}

-- the file stands in the list
abbrev pub In : List ℕ → List (List ℕ) → Type 0
In file [] = ⊥
In file (first ∷ files) = (file ≡ first) ⊎ In file files
