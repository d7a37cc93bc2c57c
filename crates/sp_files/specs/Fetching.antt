-- The names of a journal's two files, and which of them a shelf was asked for.
use Rattle.std.specs.Prelude.{◌≡◌, ℕ, List, [], ◌∷◌, ◌++◌, codes}

-- the name with `.alt` at its end
abbrev pub alt_name : List ℕ → List ℕ
alt_name name = name ++ codes ".alt"

-- the names of the two files, in the order in which a shelf is asked for them
abbrev pub names_of : List ℕ → List (List ℕ)
names_of name = name ∷ alt_name name ∷ []

-- A shelf was asked for some first ones of these names, and for nothing else.
abbrev pub AsksFirst : List (List ℕ) → List (List ℕ) → List (List ℕ) → Type 0
AsksFirst old new names = (front rest : List (List ℕ)) × (names ≡ front ++ rest) × (new ≡ old ++ front)
