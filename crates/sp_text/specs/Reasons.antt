-- Why a line is bad: each reason with its test, in the order in which they are told.
use Rattle.std.specs.Prelude.{◌≡◌, ℕ, ◌+◌, ◌==◌, ◌&&◌, nat_lt, Bool, true, false, not, List, [], ◌∷◌, length, take, drop, Option, Some, None, is_some, is_none, is_ok, Result, Ok, Err, if◌then◌else◌, bytes_eq, codes}
use Rattle.std.specs.List.{list_all}
use Rattle.std.specs.Option.{option_map}
use Rattle.sp_rect.specs.Value.{is_value}
use Rattle.sp_text.specs.Numbers.{id_of, coordinate_of}
use Rattle.sp_text.specs.Names.{session_of}
use Rattle.sp_text.specs.Operations.{found, rectangle_in}
use Rattle.sp_text.specs.Grammar.{words, kernel_event}
use Rattle.sp_text.specs.declared.form.Form.{Form}
use Rattle.sp_text.specs.declared.form.Form.TheVariants.{Play, Drill, Session as OneSession}
use Rattle.sp_text.specs.declared.types.Said.{Said}
use Rattle.sp_text.specs.declared.types.Bad.{Bad}
use Rattle.sp_text.specs.declared.types.Bad.TheVariants.{Long, Session, Command, Words, Number, Rect, Value}
use Rattle.sp_text.specs.declared.types.TextError.{TextError}
use Rattle.sp_text.specs.declared.types.TextError.TheVariants.{Bad as BadLine, Memory}

-- what follows a command word: an id, a rectangle and a value, each of them or not, in this order
pub record Shape : Type 0 where
  pub id : Bool
  pub rect : Bool
  pub value : Bool

abbrev pub shape : Bool → Bool → Bool → Shape
shape id rect value = record { id = id; rect = rect; value = value }

-- nothing follows
abbrev pub bare : Shape
bare = shape false false false

abbrev pub operation_shapes : List (List ℕ × Shape)
operation_shapes =
    (codes "put", shape true true true) ∷ (codes "drop", shape true false false) ∷ (codes "set", shape true false true)
    ∷ (codes "get", shape true false false) ∷ (codes "find", shape false true false) ∷ (codes "fill", shape false true true)
    ∷ (codes "clear", shape false true false) ∷ []

abbrev pub command_shapes : List (List ℕ × Shape)
command_shapes = (codes "begin", bare) ∷ (codes "commit", bare) ∷ (codes "rollback", bare) ∷ operation_shapes

abbrev pub event_shapes : List (List ℕ × Shape)
event_shapes =
    (codes "begin", bare) ∷ (codes "name", bare) ∷ (codes "plan", bare) ∷ (codes "ask", bare)
    ∷ (codes "apply", bare) ∷ (codes "commit", bare) ∷ (codes "rollback", bare) ∷ []

-- a known command word's shape, and the words after it
pub record Call : Type 0 where
  pub shape : Shape
  pub words : List (List ℕ)

abbrev pub call : List (List ℕ) → Shape → Call
call others s = record { shape = s; words = others }

-- the call of words that begin with a command word of the table
abbrev pub call_by : List (List ℕ × Shape) → List (List ℕ) → Option Call
call_by table [] = None
call_by table (word ∷ others) = option_map (call others) (found word table)

-- the call of an event of a session: an operation stands behind `start`
abbrev pub start_or : Option Call → List (List ℕ) → Option Call
start_or (Some c) ws = Some c
start_or None [] = None
start_or None (word ∷ others) = if bytes_eq word (codes "start") then call_by operation_shapes others else None

abbrev pub event_call : List (List ℕ) → Option Call
event_call ws = start_or (call_by event_shapes ws) ws

-- the call of a line
abbrev pub call_in : Form → List (List ℕ) → Option Call
call_in Play ws = call_by command_shapes (drop 1 ws)
call_in Drill ws = if is_some (kernel_event ws) then Some (call [] bare) else event_call (drop 1 ws)
call_in OneSession ws = call_by command_shapes ws

-- a line names no session where it ought to
abbrev pub names_nobody : List (List ℕ) → Bool
names_nobody [] = true
names_nobody (name ∷ others) = is_none (session_of name)

abbrev pub lacks_session : Form → List (List ℕ) → Bool
lacks_session Play ws = names_nobody ws
lacks_session Drill ws = is_none (kernel_event ws) && names_nobody ws
lacks_session OneSession ws = false

-- how many words are wanted, and which of them are of which kind
abbrev pub so_many : Bool → ℕ → ℕ
so_many b n = if b then n else 0

abbrev pub wanted : Shape → ℕ
wanted s = so_many s.id 1 + so_many s.rect 4 + so_many s.value 1

abbrev pub ids : Call → List (List ℕ)
ids c = take (so_many c.shape.id 1) c.words

abbrev pub corners : Call → List (List ℕ)
corners c = take (so_many c.shape.rect 4) (drop (so_many c.shape.id 1) c.words)

abbrev pub values : Call → List (List ℕ)
values c = drop (so_many c.shape.id 1 + so_many c.shape.rect 4) c.words

-- no coordinates, or four that are a rectangle in space
abbrev pub are_rectangle : List (List ℕ) → Bool
are_rectangle (a ∷ b ∷ c ∷ d ∷ []) = is_ok (rectangle_in a b c d)
are_rectangle _ = true

abbrev pub are_numbers : Call → Bool
are_numbers c = list_all (λ w. is_some (id_of w)) (ids c) && list_all (λ w. is_some (coordinate_of w)) (corners c)

-- the reasons in order, each with the test of the line that it goes by
abbrev pub call_reasons : Option Call → List (Bool × Bad)
call_reasons None = (true, Command) ∷ []
call_reasons (Some c) =
    (not (length c.words == wanted c.shape), Words)
    ∷ (not (are_numbers c), Number)
    ∷ (not (are_rectangle (corners c)), Rect)
    ∷ (not (list_all is_value (values c)), Value) ∷ []

abbrev pub reasons : Form → List ℕ → List (Bool × Bad)
reasons form line =
    (nat_lt 512 (length line), Long)
    ∷ (lacks_session form (words line), Session)
    ∷ call_reasons (call_in form (words line))

-- the first reason whose test holds
abbrev pub first_of : List (Bool × Bad) → Option Bad
first_of [] = None
first_of (x ∷ rest) = if x.0 then Some x.1 else first_of rest

-- a reader answers this reason, and that there is none where a line is good, unless memory runs out
abbrev pub BadAs : Option Bad → Result Said TextError → Type 0
BadAs reason (Ok s) = reason ≡ None
BadAs reason (Err (BadLine session bad)) = reason ≡ Some bad
BadAs reason (Err Memory) = Unit {0}
