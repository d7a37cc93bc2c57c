-- Operations in words: what the words spell, or the first reason why they spell nothing.
use Rattle.std.specs.Prelude.{◌≡◌, ℕ, List, [], ◌∷◌, Option, Some, None, Result, Ok, Err, if◌then◌else◌, bytes_eq, codes}
use Rattle.sp_rect.specs.Plane.{Rectangle, made_rectangle}
use Rattle.sp_rect.specs.Value.{is_value}
use Rattle.sp_rect.specs.declared.record.Record.{Record}
use Rattle.sp_rect.specs.declared.operation.Op.{Op}
use Rattle.sp_rect.specs.declared.operation.Op.TheVariants.{Put, Drop, Set, Get, Find, Fill, Clear}
use Rattle.sp_text.specs.Numbers.{id_of, coordinate_of}
use Rattle.sp_text.specs.declared.operations.Verb.{Verb}
use Rattle.sp_text.specs.declared.operations.Verb.TheVariants.{Put as PutWord, Drop as DropWord, Set as SetWord, Get as GetWord, Find as FindWord, Fill as FillWord, Clear as ClearWord}
use Rattle.sp_text.specs.declared.types.Bad.{Bad}
use Rattle.sp_text.specs.declared.types.Bad.TheVariants.{Command, Words, Number, Rect, Value}
use Rattle.sp_text.specs.declared.flaw.Flaw.{Flaw}
use Rattle.sp_text.specs.declared.flaw.Flaw.TheVariants.{Bad as BadWords, Memory}

-- what is there goes on, and else the words are bad for this reason
infixl 20 ◌or◌then◌
abbrev pub ◌or◌then◌ : {A B : Type 0} → Option A → Bad → (A → Result B Bad) → Result B Bad
None or bad then next = Err bad
Some x or bad then next = next x

-- what was spelled goes on
abbrev pub and_then : {A B : Type 0} → Result A Bad → (A → Result B Bad) → Result B Bad
and_then (Err bad) next = Err bad
and_then (Ok x) next = next x

-- what stands beside the word in a table
abbrev pub found : {A : Type 0} → List ℕ → List (List ℕ × A) → Option A
found word [] = None
found word (entry ∷ entries) = if bytes_eq word entry.0 then Some entry.1 else found word entries

abbrev pub value_of : List ℕ → Option (List ℕ)
value_of word = if is_value word then Some word else None

-- an id
abbrev pub id_in : List ℕ → Result ℕ Bad
id_in word = id_of word or Number then Ok

-- four coordinates, and then that they are a rectangle in space
unfoldable pub rectangle_in : List ℕ → List ℕ → List ℕ → List ℕ → Result Rectangle Bad
rectangle_in a b c d =
    coordinate_of a or Number then λ x1.
    coordinate_of b or Number then λ y1.
    coordinate_of c or Number then λ x2.
    coordinate_of d or Number then λ y2.
    made_rectangle x1 y1 x2 y2 or Rect then Ok

-- a value
unfoldable pub value_in : List ℕ → Result (List ℕ) Bad
value_in word = value_of word or Value then Ok

-- an id, a rectangle and a value
unfoldable pub record_in : List ℕ → List ℕ → List ℕ → List ℕ → List ℕ → List ℕ → Result Record Bad
record_in i a b c d v =
    and_then (id_in i) λ id. and_then (rectangle_in a b c d) λ rect. and_then (value_in v) λ value.
    Ok (record { id = id; rect = rect; value = value })

-- the words of operations
abbrev pub verbs : List (List ℕ × Verb)
verbs =
    (codes "put", PutWord) ∷ (codes "drop", DropWord) ∷ (codes "set", SetWord) ∷ (codes "get", GetWord)
    ∷ (codes "find", FindWord) ∷ (codes "fill", FillWord) ∷ (codes "clear", ClearWord) ∷ []

-- what follows each of them
unfoldable pub spelled : Verb → List (List ℕ) → Result Op Bad
spelled PutWord (i ∷ a ∷ b ∷ c ∷ d ∷ v ∷ []) = and_then (record_in i a b c d v) λ r. Ok (Put r)
spelled DropWord (i ∷ []) = and_then (id_in i) λ id. Ok (Drop id)
spelled SetWord (i ∷ v ∷ []) = and_then (id_in i) λ id. and_then (value_in v) λ value. Ok (Set id value)
spelled GetWord (i ∷ []) = and_then (id_in i) λ id. Ok (Get id)
spelled FindWord (a ∷ b ∷ c ∷ d ∷ []) = and_then (rectangle_in a b c d) λ rect. Ok (Find rect)
spelled FillWord (a ∷ b ∷ c ∷ d ∷ v ∷ []) = and_then (rectangle_in a b c d) λ rect. and_then (value_in v) λ value. Ok (Fill rect value)
spelled ClearWord (a ∷ b ∷ c ∷ d ∷ []) = and_then (rectangle_in a b c d) λ rect. Ok (Clear rect)
spelled _ _ = Err Words

-- an operation's word and those after it
abbrev pub operation_of : List (List ℕ) → Result Op Bad
operation_of [] = Err Command
operation_of (word ∷ others) = found word verbs or Command then λ verb. spelled verb others

-- what a reader of words answers is what they spell, unless memory runs out
abbrev pub ReadsAs : {A : Type 0} → Result A Bad → Result A Flaw → Type 0
ReadsAs given (Ok x) = given ≡ Ok x
ReadsAs given (Err (BadWords bad)) = given ≡ Err bad
ReadsAs given (Err Memory) = Unit {0}
