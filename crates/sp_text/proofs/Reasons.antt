-- A line is bad exactly where a reason's test holds, and with the first such reason.
use Rattle.std.proofs.Common.{arith, ◌≡◌, ℕ, ℤ, ◌<◌, Bool, true, false, not, cond, eqb, ◌&&◌, nat_lt, List, [], ◌∷◌, length, map, drop, Option, Some, None, Result, Ok, Err, refl, sym, ap, ◌∙◌}
use Rattle.std.specs.Prelude.{is_some, is_none, is_ok, bytes_eq, codes}
use Rattle.std.specs.List.{list_all}
use Rattle.std.specs.Option.{option_map}
use Rattle.std.proofs.lemmas.Bool.Decides.{nat_tests}
use Rattle.sp_rect.specs.Plane.{Rectangle, made_rectangle, is_rectangle, corners as corners_of}
use Rattle.sp_rect.specs.Value.{is_value}
use Rattle.sp_rect.specs.declared.record.Record.{Record}
use Rattle.sp_rect.specs.declared.operation.Op.TheVariants.{Put, Drop, Set, Get, Find, Fill, Clear}
use Rattle.sp_event.specs.declared.event.Event.{Event}
use Rattle.sp_event.specs.declared.event.Event.TheVariants.{Start}
use Rattle.sp_text.specs.Numbers.{id_of, coordinate_of}
use Rattle.sp_text.specs.Names.{session_of}
use Rattle.sp_text.specs.Operations.{◌or◌then◌, and_then, found, verbs, rectangle_in, value_in, record_in, spelled, operation_of}
use Rattle.sp_text.specs.Grammar.{Wrong, wrong, words, alone, commands, bare_or, command_of, events, event_of, kernel_event, told, stepped, session_or, play_said, drill_said, step_or, said_by, said, SaysAs}
use Rattle.sp_text.specs.Reasons.{Shape, Call, call, bare, shape, operation_shapes, command_shapes, call_by, start_or, event_call, call_in, names_nobody, lacks_session, wanted, call_reasons, reasons, first_of, BadAs}
use Rattle.sp_text.specs.declared.operations.Verb.{Verb}
use Rattle.sp_text.specs.declared.operations.Verb.TheVariants.{Put as PutWord, Drop as DropWord, Set as SetWord, Get as GetWord, Find as FindWord, Fill as FillWord, Clear as ClearWord}
use Rattle.sp_text.specs.declared.form.Form.{Form}
use Rattle.sp_text.specs.declared.form.Form.TheVariants.{Play, Drill, Session as OneSession}
use Rattle.sp_text.specs.declared.types.Command.{Command as Order}
use Rattle.sp_text.specs.declared.types.Command.TheVariants.{Do}
use Rattle.sp_text.specs.declared.types.Said.{Said}
use Rattle.sp_text.specs.declared.types.Bad.{Bad}
use Rattle.sp_text.specs.declared.types.Bad.TheVariants.{Long, Session, Command, Words, Number, Rect, Value}
use Rattle.sp_text.specs.declared.types.TextError.{TextError}
use Rattle.sp_text.specs.declared.types.TextError.TheVariants.{Bad as BadLine, Memory}

-- the reason why words are bad, and why a line is
abbrev bad_of : {A : Type 0} → Result A Bad → Option Bad
bad_of (Ok x) = None
bad_of (Err bad) = Some bad

abbrev wrong_of : Result Said Wrong → Option Bad
wrong_of (Ok x) = None
wrong_of (Err w) = Some w.bad

-- what goes on from good words is bad where they are
bad_then : {A B : Type 0} (r : Result A Bad) (make : A → B) → bad_of (and_then r (λ x. Ok (make x))) ≡ bad_of r
bad_then (Ok x) make = refl
bad_then (Err bad) make = refl

-- four coordinates
abbrev rect_of : Option ℤ → Option ℤ → Option ℤ → Option ℤ → Result Rectangle Bad
rect_of oa ob oc od =
    oa or Number then λ x1. ob or Number then λ y1. oc or Number then λ x2. od or Number then λ y2. made_rectangle x1 y1 x2 y2 or Rect then Ok

rect_parts : {B : Type 0} (oa ob oc od : Option ℤ) (next : Rectangle → Result B Bad) (rest : List (Bool × Bad)) → ((r : Rectangle) → bad_of (next r) ≡ first_of rest)
    → bad_of (and_then (rect_of oa ob oc od) next)
    ≡ first_of ((not (is_some oa && (is_some ob && (is_some oc && (is_some od && true)))), Number) ∷ (not (is_ok (rect_of oa ob oc od)), Rect) ∷ rest)
rect_parts None ob oc od next rest h = refl
rect_parts (Some x1) None oc od next rest h = refl
rect_parts (Some x1) (Some y1) None od next rest h = refl
rect_parts (Some x1) (Some y1) (Some x2) None next rest h = refl
rect_parts {B} (Some x1) (Some y1) (Some x2) (Some y2) next rest h = by_made (is_rectangle (corners_of x1 y1 x2 y2))
  where
    by_made : (b : Bool) → bad_of (and_then ((cond b (Some (corners_of x1 y1 x2 y2)) None) or Rect then Ok) next)
        ≡ first_of ((not (is_ok ((cond b (Some (corners_of x1 y1 x2 y2)) None) or Rect then Ok)), Rect) ∷ rest)
    by_made true = h (corners_of x1 y1 x2 y2)
    by_made false = refl

rect_words : {B : Type 0} (a b c d : List ℕ) (next : Rectangle → Result B Bad) (rest : List (Bool × Bad)) → ((r : Rectangle) → bad_of (next r) ≡ first_of rest)
    → bad_of (and_then (rectangle_in a b c d) next)
    ≡ first_of ((not (list_all (λ w. is_some (coordinate_of w)) (a ∷ b ∷ c ∷ d ∷ [])), Number) ∷ (not (is_ok (rectangle_in a b c d)), Rect) ∷ rest)
unfolding rectangle_in
rect_words a b c d next rest h = rect_parts (coordinate_of a) (coordinate_of b) (coordinate_of c) (coordinate_of d) next rest h

value_words : {B : Type 0} (v : List ℕ) (make : List ℕ → B)
    → bad_of (and_then (value_in v) (λ x. Ok (make x))) ≡ first_of ((not (list_all is_value (v ∷ [])), Value) ∷ [])
unfolding value_in
value_words v make = by_value (is_value v)
  where
    by_value : (b : Bool) → bad_of (and_then ((cond b (Some v) None) or Value then Ok) (λ x. Ok (make x))) ≡ first_of ((not (b && true), Value) ∷ [])
    by_value true = refl
    by_value false = refl

-- an id before what follows
id_words : {B : Type 0} (i : List ℕ) (next : ℕ → Result B Bad) (others : Bool) (rest : List (Bool × Bad)) → ((id : ℕ) → bad_of (next id) ≡ first_of ((not others, Number) ∷ rest))
    → bad_of (and_then (id_of i or Number then Ok) next) ≡ first_of ((not ((is_some (id_of i) && true) && others), Number) ∷ rest)
id_words {B} i next others rest h = by_id (id_of i)
  where
    by_id : (o : Option ℕ) → bad_of (and_then (o or Number then Ok) next) ≡ first_of ((not ((is_some o && true) && others), Number) ∷ rest)
    by_id None = refl
    by_id (Some id) = h id

abbrev shape_of : Verb → Shape
shape_of PutWord = shape true true true
shape_of DropWord = shape true false false
shape_of SetWord = shape true false true
shape_of GetWord = shape true false false
shape_of FindWord = shape false true false
shape_of FillWord = shape false true true
shape_of ClearWord = shape false true false

more_words : (s : Shape) (ws : List (List ℕ)) → wanted s < length ws → Some Words ≡ first_of (call_reasons (Some (call ws s)))
more_words s ws h = let t : eqb (length ws) (wanted s) ≡ false = grind (arith, nat_tests) in rw t refl

-- the tests of what follows a number
abbrev of_values : List (List ℕ) → List (Bool × Bad)
of_values vs = (not (list_all is_value vs), Value) ∷ []

abbrev no_rect : List (List ℕ) → List (Bool × Bad)
no_rect vs = (false, Rect) ∷ of_values vs

abbrev of_rect : List ℕ → List ℕ → List ℕ → List ℕ → List (List ℕ) → List (Bool × Bad)
of_rect a b c d vs = (not (is_ok (rectangle_in a b c d)), Rect) ∷ of_values vs

abbrev are_coordinates : List ℕ → List ℕ → List ℕ → List ℕ → Bool
are_coordinates a b c d = list_all (λ w. is_some (coordinate_of w)) (a ∷ b ∷ c ∷ d ∷ [])

abbrev made : ℕ → Rectangle → List ℕ → Record
made id rect value = record { id = id; rect = rect; value = value }

spelled_reasons : (v : Verb) (ws : List (List ℕ)) → bad_of (spelled v ws) ≡ first_of (call_reasons (Some (call ws (shape_of v))))
unfolding spelled record_in
spelled_reasons PutWord [] = refl
spelled_reasons PutWord (a ∷ []) = refl
spelled_reasons PutWord (a ∷ b ∷ []) = refl
spelled_reasons PutWord (a ∷ b ∷ c ∷ []) = refl
spelled_reasons PutWord (a ∷ b ∷ c ∷ d ∷ []) = refl
spelled_reasons PutWord (a ∷ b ∷ c ∷ d ∷ e ∷ []) = refl
spelled_reasons PutWord (a ∷ b ∷ c ∷ d ∷ e ∷ f ∷ []) = bad_then (record_in a b c d e f) Put
    ∙ id_words a (λ id. and_then (rectangle_in b c d e) λ rect. and_then (value_in f) λ value. Ok (made id rect value)) (are_coordinates b c d e) (of_rect b c d e (f ∷ []))
    (λ id. rect_words b c d e (λ rect. and_then (value_in f) λ value. Ok (made id rect value)) (of_values (f ∷ [])) (λ r. value_words f (made id r)))
spelled_reasons PutWord (a ∷ b ∷ c ∷ d ∷ e ∷ f ∷ g ∷ rest) = more_words (shape true true true) (a ∷ b ∷ c ∷ d ∷ e ∷ f ∷ g ∷ rest) (omega arith)
spelled_reasons DropWord [] = refl
spelled_reasons DropWord (a ∷ []) = id_words a (λ id. Ok (Drop id)) true (no_rect []) (λ id. refl)
spelled_reasons DropWord (a ∷ b ∷ rest) = more_words (shape true false false) (a ∷ b ∷ rest) (omega arith)
spelled_reasons SetWord [] = refl
spelled_reasons SetWord (a ∷ []) = refl
spelled_reasons SetWord (a ∷ b ∷ []) = id_words a (λ id. and_then (value_in b) λ value. Ok (Set id value)) true (no_rect (b ∷ [])) (λ id. value_words b (λ value. Set id value))
spelled_reasons SetWord (a ∷ b ∷ c ∷ rest) = more_words (shape true false true) (a ∷ b ∷ c ∷ rest) (omega arith)
spelled_reasons GetWord [] = refl
spelled_reasons GetWord (a ∷ []) = id_words a (λ id. Ok (Get id)) true (no_rect []) (λ id. refl)
spelled_reasons GetWord (a ∷ b ∷ rest) = more_words (shape true false false) (a ∷ b ∷ rest) (omega arith)
spelled_reasons FindWord [] = refl
spelled_reasons FindWord (a ∷ []) = refl
spelled_reasons FindWord (a ∷ b ∷ []) = refl
spelled_reasons FindWord (a ∷ b ∷ c ∷ []) = refl
spelled_reasons FindWord (a ∷ b ∷ c ∷ d ∷ []) = rect_words a b c d (λ r. Ok (Find r)) (of_values []) (λ r. refl)
spelled_reasons FindWord (a ∷ b ∷ c ∷ d ∷ e ∷ rest) = more_words (shape false true false) (a ∷ b ∷ c ∷ d ∷ e ∷ rest) (omega arith)
spelled_reasons FillWord [] = refl
spelled_reasons FillWord (a ∷ []) = refl
spelled_reasons FillWord (a ∷ b ∷ []) = refl
spelled_reasons FillWord (a ∷ b ∷ c ∷ []) = refl
spelled_reasons FillWord (a ∷ b ∷ c ∷ d ∷ []) = refl
spelled_reasons FillWord (a ∷ b ∷ c ∷ d ∷ e ∷ []) = rect_words a b c d (λ r. and_then (value_in e) λ value. Ok (Fill r value)) (of_values (e ∷ [])) (λ r. value_words e (λ value. Fill r value))
spelled_reasons FillWord (a ∷ b ∷ c ∷ d ∷ e ∷ f ∷ rest) = more_words (shape false true true) (a ∷ b ∷ c ∷ d ∷ e ∷ f ∷ rest) (omega arith)
spelled_reasons ClearWord [] = refl
spelled_reasons ClearWord (a ∷ []) = refl
spelled_reasons ClearWord (a ∷ b ∷ []) = refl
spelled_reasons ClearWord (a ∷ b ∷ c ∷ []) = refl
spelled_reasons ClearWord (a ∷ b ∷ c ∷ d ∷ []) = rect_words a b c d (λ r. Ok (Clear r)) (of_values []) (λ r. refl)
spelled_reasons ClearWord (a ∷ b ∷ c ∷ d ∷ e ∷ rest) = more_words (shape false true false) (a ∷ b ∷ c ∷ d ∷ e ∷ rest) (omega arith)

-- a word of a table
found-map : {A B : Type 0} (f : A → B) (word : List ℕ) (table : List (List ℕ × A)) → found word (map (λ e. (e.0, f e.1)) table) ≡ option_map f (found word table)
found-map f word [] = refl
found-map {A} {B} f word (e ∷ table) = by_word (found-map f word table) (bytes_eq word e.0)
  where
    by_word : found word (map (λ x. (x.0, f x.1)) table) ≡ option_map f (found word table) → (b : Bool) → cond b (Some (f e.1)) (found word (map (λ x. (x.0, f x.1)) table)) ≡ option_map f (cond b (Some e.1) (found word table))
    by_word h true = refl
    by_word h false = h

operation_by : (o : Option Verb) (others : List (List ℕ)) → bad_of (o or Command then λ verb. spelled verb others) ≡ first_of (call_reasons (option_map (call others) (option_map shape_of o)))
operation_by None others = refl
operation_by (Some verb) others = spelled_reasons verb others

operation_reasons : (ws : List (List ℕ)) → bad_of (operation_of ws) ≡ first_of (call_reasons (call_by operation_shapes ws))
operation_reasons [] = refl
operation_reasons (word ∷ others) =
    operation_by (found word verbs) others
    ∙ ap (λ o. first_of (call_reasons (option_map (call others) o))) (sym (found-map shape_of word verbs))

-- a command of one word
alone_reasons : {A : Type 0} (x : A) (others : List (List ℕ)) → bad_of (alone x others) ≡ first_of (call_reasons (Some (call others bare)))
alone_reasons x [] = refl
alone_reasons x (o ∷ others) = more_words bare (o ∷ others) (omega arith)

-- the words of a table, with nothing behind them, before another table
abbrev bares : {A : Type 0} → List (List ℕ × A) → List (List ℕ × Shape) → List (List ℕ × Shape)
bares [] more = more
bares (e ∷ table) more = (e.0, bare) ∷ bares table more

abbrev call_or : {A : Type 0} → Option A → List (List ℕ) → Option Call → Option Call
call_or (Some x) others given = Some (call others bare)
call_or None others given = given

found-bares : {A : Type 0} (word : List ℕ) (others : List (List ℕ)) (table : List (List ℕ × A)) (more : List (List ℕ × Shape))
    → call_or (found word table) others (option_map (call others) (found word more)) ≡ option_map (call others) (found word (bares table more))
found-bares word others [] more = refl
found-bares {A} word others (e ∷ table) more = by_word (found-bares word others table more) (bytes_eq word e.0)
  where
    by_word : call_or (found word table) others (option_map (call others) (found word more)) ≡ option_map (call others) (found word (bares table more))
        → (b : Bool) → call_or (cond b (Some e.1) (found word table)) others (option_map (call others) (found word more))
        ≡ option_map (call others) (cond b (Some bare) (found word (bares table more)))
    by_word h true = refl
    by_word h false = h

bare_reasons : {A : Type 0} (o : Option A) (others : List (List ℕ)) (given : Result A Bad) (m : Option Call) → bad_of given ≡ first_of (call_reasons m)
    → bad_of (bare_or o others given) ≡ first_of (call_reasons (call_or o others m))
bare_reasons (Some x) others given m h = alone_reasons x others
bare_reasons None others given m h = h

command_reasons : (ws : List (List ℕ)) → bad_of (command_of ws) ≡ first_of (call_reasons (call_by command_shapes ws))
command_reasons [] = refl
command_reasons (word ∷ others) =
    bare_reasons (found word commands) others _ (call_by operation_shapes (word ∷ others)) (bad_then (operation_of (word ∷ others)) Do ∙ operation_reasons (word ∷ others))
    ∙ ap (λ m. first_of (call_reasons m)) (found-bares word others commands operation_shapes)

-- an event of a session
start_reasons : (s : ℕ) (b : Bool) (others : List (List ℕ))
    → bad_of (cond b (and_then (operation_of others) (λ op. Ok (Start s op))) (Err Command)) ≡ first_of (call_reasons (cond b (call_by operation_shapes others) None))
start_reasons s true others = bad_then (operation_of others) (λ op. Start s op) ∙ operation_reasons others
start_reasons s false others = refl

started : {A : Type 0} (o : Option A) (word : List ℕ) (others : List (List ℕ))
    → call_or o others (cond (bytes_eq word (codes "start")) (call_by operation_shapes others) None) ≡ start_or (call_or o others None) (word ∷ others)
started (Some x) word others = refl
started None word others = refl

event_reasons : (s : ℕ) (ws : List (List ℕ)) → bad_of (event_of s ws) ≡ first_of (call_reasons (event_call ws))
event_reasons s [] = refl
event_reasons s (word ∷ others) =
    bare_reasons (found word (events s)) others _ _ (start_reasons s (bytes_eq word (codes "start")) others)
    ∙ ap (λ m. first_of (call_reasons m)) (started (found word (events s)) word others
    ∙ ap (λ m. start_or m (word ∷ others)) (found-bares word others (events s) []))

-- a line
told_is : (o : Option ℕ) (r : Result Order Bad) → wrong_of (told o r) ≡ bad_of r
told_is o (Ok command) = refl
told_is o (Err bad) = refl

stepped_is : (s : ℕ) (r : Result Event Bad) → wrong_of (stepped s r) ≡ bad_of r
stepped_is s (Ok event) = refl
stepped_is s (Err bad) = refl

play_reasons : (ws : List (List ℕ)) → wrong_of (play_said ws) ≡ first_of ((names_nobody ws, Session) ∷ call_reasons (call_by command_shapes (drop 1 ws)))
play_reasons [] = refl
play_reasons (name ∷ others) = by_session (session_of name)
  where
    by_session : (o : Option ℕ) → wrong_of (session_or o (λ s. told (Some s) (command_of others))) ≡ first_of ((is_none o, Session) ∷ call_reasons (call_by command_shapes others))
    by_session None = refl
    by_session (Some s) = told_is (Some s) (command_of others) ∙ command_reasons others

drill_reasons : (ws : List (List ℕ)) → wrong_of (drill_said ws) ≡ first_of ((names_nobody ws, Session) ∷ call_reasons (event_call (drop 1 ws)))
drill_reasons [] = refl
drill_reasons (name ∷ others) = by_session (session_of name)
  where
    by_session : (o : Option ℕ) → wrong_of (session_or o (λ s. stepped s (event_of s others))) ≡ first_of ((is_none o, Session) ∷ call_reasons (event_call others))
    by_session None = refl
    by_session (Some s) = stepped_is s (event_of s others) ∙ event_reasons s others

kernel_reasons : (k : Option Event) (ws : List (List ℕ))
    → wrong_of (step_or k (drill_said ws)) ≡ first_of ((is_none k && names_nobody ws, Session) ∷ call_reasons (cond (is_some k) (Some (call [] bare)) (event_call (drop 1 ws))))
kernel_reasons (Some event) ws = refl
kernel_reasons None ws = drill_reasons ws

words_reasons : (form : Form) (ws : List (List ℕ)) → wrong_of (said_by form ws) ≡ first_of ((lacks_session form ws, Session) ∷ call_reasons (call_in form ws))
words_reasons Play ws = play_reasons ws
words_reasons Drill ws = kernel_reasons (kernel_event ws) ws
words_reasons OneSession ws = told_is None (command_of ws) ∙ command_reasons ws

line_reasons : (form : Form) (line : List ℕ) → wrong_of (said form line) ≡ first_of (reasons form line)
unfolding said
line_reasons form line = by_length (nat_lt 512 (length line))
  where
    by_length : (b : Bool) → wrong_of (cond b (Err (wrong None Long)) (said_by form (words line)))
        ≡ first_of ((b, Long) ∷ (lacks_session form (words line), Session) ∷ call_reasons (call_in form (words line)))
    by_length true = refl
    by_length false = words_reasons form (words line)

-- so is what is read
pub bad_as : (form : Form) (line : List ℕ) (r : Result Said TextError) → SaysAs (said form line) r → BadAs (first_of (reasons form line)) r
bad_as form line (Ok s) e = sym (line_reasons form line) ∙ ap wrong_of e
bad_as form line (Err (BadLine session bad)) e = sym (line_reasons form line) ∙ ap wrong_of e
bad_as form line (Err Memory) e = tt
