-- A good line is the text of what it says.
use Rattle.std.proofs.Common.{arith, ◌≡◌, ℕ, ℤ, pos, negsuc, ◌-ℤ◌, ◌^◌, ◌-◌, ◌<◌, ◌≤◌, Bool, true, false, cond, eqb, ◌&&◌, ◌||◌, nat_lt, nat_le, List, [], ◌∷◌, ◌++◌, length, drop, get_or, slice_index, Option, Some, None, Result, Ok, Err, refl, sym, ap, ◌∙◌, zero, suc}
use Rattle.std.proofs.lemmas.Int.{ints}
use Rattle.std.specs.Prelude.{IfOk, bytes_eq, codes, decimal}
use Rattle.std.specs.List.{list_all}
use Rattle.std.specs.Option.{option_map, option_and_then}
use Rattle.std.specs.Fmt.{signed_decimal}
use Rattle.std.specs.Str.Parse.{digits_value}
use Rattle.std.proofs.lemmas.Bool.Decides.{nat_tests}
use Rattle.std.proofs.lemmas.Slice.Eq.{bytes_eq-Decides}
use Rattle.std.proofs.lemmas.Str.Parse.{IsDigitsTest, numerals_by_value}
use Rattle.std.proofs.lemmas.Fmt.{decimal-digits_value}
use Rattle.sp_rect.specs.Plane.{Rectangle, made_rectangle, is_rectangle, corners}
use Rattle.sp_rect.specs.Value.{is_value}
use Rattle.sp_rect.specs.declared.record.Record.{Record}
use Rattle.sp_rect.specs.declared.operation.Op.{Op}
use Rattle.sp_rect.specs.declared.operation.Op.TheVariants.{Put, Drop, Set, Get, Find, Fill, Clear}
use Rattle.sp_event.specs.declared.event.Event.{Event}
use Rattle.sp_event.specs.declared.event.Event.TheVariants.{Start, Flush, Clean}
use Rattle.sp_text.specs.Numbers.{is_decimal_digit, is_numeral, number_up_to, id_of, positive_of, negative_of, coordinate_of}
use Rattle.sp_text.specs.Names.{session_of, script_name}
use Rattle.sp_text.specs.Operations.{◌or◌then◌, and_then, found, verbs, id_in, rectangle_in, value_in, record_in, spelled, operation_of}
use Rattle.sp_text.specs.Grammar.{Wrong, wrong, words, commands, bare_or, command_of, events, event_of, kernel_event, told, stepped, session_or, play_said, drill_said, step_or, said_by, said, SaysAs}
use Rattle.sp_text.specs.Spelling.{corner_texts, operation_words, command_words, event_words, said_words}
use Rattle.sp_text.specs.declared.operations.Verb.{Verb}
use Rattle.sp_text.specs.declared.operations.Verb.TheVariants.{Put as PutWord, Drop as DropWord, Set as SetWord, Get as GetWord, Find as FindWord, Fill as FillWord, Clear as ClearWord}
use Rattle.sp_text.specs.declared.form.Form.{Form}
use Rattle.sp_text.specs.declared.form.Form.TheVariants.{Play, Drill, Session as OneSession}
use Rattle.sp_text.specs.declared.types.Command.{Command as Order}
use Rattle.sp_text.specs.declared.types.Command.TheVariants.{Do}
use Rattle.sp_text.specs.declared.types.Said.{Said}
use Rattle.sp_text.specs.declared.types.Bad.{Bad}
use Rattle.sp_text.specs.declared.types.Bad.TheVariants.{Long, Number, Rect, Value, Command}
use Rattle.sp_text.specs.declared.types.TextError.{TextError}
use Rattle.sp_text.specs.declared.types.TextError.TheVariants.{Bad as BadLine, Memory}
use Rattle.sp_text.proofs.SessionNames.{session_named}

abbrev ok_of : {A E : Type 0} → A → Result A E
ok_of x = Ok x

same_ok : {A E : Type 0} (a b : A) → ok_of {A = A} {E = E} a ≡ Ok b → a ≡ b
same_ok a b e = cc

same_some : {A : Type 0} (a b : A) → Some a ≡ Some b → a ≡ b
same_some a b e = cc

-- what went on was good
and_then_ok : {A B : Type 0} (r : Result A Bad) (next : A → Result B Bad) (y : B) → and_then r next ≡ Ok y → (x : A) × (r ≡ Ok x) × (next x ≡ Ok y)
and_then_ok (Ok x) next y e = (x, refl, e)
and_then_ok (Err bad) next y e = absurd (cc)

or_then_ok : {A B : Type 0} (o : Option A) (bad : Bad) (next : A → Result B Bad) (y : B) → (o or bad then next) ≡ Ok y → (x : A) × (o ≡ Some x) × (next x ≡ Ok y)
or_then_ok (Some x) bad next y e = (x, refl, e)
or_then_ok None bad next y e = absurd (cc)

both_true : (a b : Bool) → a && b ≡ true → (a ≡ true) × (b ≡ true)
both_true true b e = (refl, e)
both_true false b e = absurd (cc)

-- numbers
abbrev AreDigits : List ℕ → Type 0
AreDigits ds = list_all is_decimal_digit ds ≡ true

tells : IsDigitsTest AreDigits
tells = record {
  empty = refl;
  parts = λ c cs h. let p = both_true (is_decimal_digit c) (list_all is_decimal_digit cs) h in (grind (arith, nat_tests, p.0), p.1);
  more = λ c cs r h. grind (arith, nat_tests);
}

one_length : (ds : List ℕ) → (nat_lt 48 (slice_index ds 0) || eqb (length ds) 1) ≡ true → 0 < length ds
one_length [] e = absurd (cc)
one_length (d ∷ ds) e = omega arith

one_zero : (ds : List ℕ) → (nat_lt 48 (slice_index ds 0) || eqb (length ds) 1) ≡ true → get_or ds 0 0 ≡ 48 → length ds ≡ 1
one_zero [] e z = absurd (cc)
one_zero (d ∷ ds) e z = grind (arith, nat_tests)

numeral_text : (w : List ℕ) → is_numeral w ≡ true → digits_value 10 w < 2 ^ 64 → decimal (digits_value 10 w) ≡ w
unfolding is_numeral
numeral_text w e small =
    let p = both_true _ _ e in
    decimal-digits_value (numerals_by_value AreDigits tells) w p.0 (one_length w p.1) (one_zero w p.1) small

number_text : (most : ℕ) (w : List ℕ) (n : ℕ) → most < 2 ^ 64 → number_up_to most w ≡ Some n → w ≡ decimal n
unfolding number_up_to
number_text most w n h e = by_test (is_numeral w && nat_le (digits_value 10 w) most) refl e
  where
    by_test : (b : Bool) → is_numeral w && nat_le (digits_value 10 w) most ≡ b → cond b (Some (digits_value 10 w)) None ≡ Some n → w ≡ decimal n
    by_test true t f =
        let p = both_true _ _ t in
        let le : digits_value 10 w ≤ most = grind (arith, nat_tests, p.1) in
        sym (numeral_text w p.0 (omega (arith, le, h))) ∙ ap decimal (same_some _ _ f)
    by_test false t f = absurd (cc)

id_text : (w : List ℕ) (id : ℕ) → id_in w ≡ Ok id → w ≡ decimal id
id_text w id e =
    let o = or_then_ok (id_of w) Number Ok id e in
    number_text (2 ^ 64 - 1) w o.0 (omega arith) o.1 ∙ ap decimal (same_ok _ _ o.2)

-- coordinates
positive_text : (w : List ℕ) (o : Option ℕ) (z : ℤ) → number_up_to 9999999999 w ≡ o → option_map pos o ≡ Some z → w ≡ signed_decimal z
positive_text w (Some n) z e f = number_text 9999999999 w n (omega arith) e ∙ ap signed_decimal (same_some _ _ f)
positive_text w None z e f = absurd (cc)

below_zero : (n : ℕ) → 0 < n → 45 ∷ decimal n ≡ signed_decimal (pos 0 -ℤ pos n)
below_zero zero h = absurd (omega arith)
below_zero (suc n) h = let e : pos 0 -ℤ pos (suc n) ≡ negsuc n = omega (arith, ints) in ap signed_decimal (sym e)

negative_text : (w : List ℕ) (o : Option ℕ) (z : ℤ) → number_up_to 9999999999 w ≡ o
    → option_and_then (λ n. cond (nat_lt 0 n) (Some (pos 0 -ℤ pos n)) None) o ≡ Some z → 45 ∷ w ≡ signed_decimal z
negative_text w None z e f = absurd (cc)
negative_text w (Some n) z e f = by_test (nat_lt 0 n) refl f
  where
    by_test : (b : Bool) → nat_lt 0 n ≡ b → cond b (Some (pos 0 -ℤ pos n)) None ≡ Some z → 45 ∷ w ≡ signed_decimal z
    by_test true t g =
        let more : 0 < n = grind (arith, nat_tests) in
        ap (λ ds. 45 ∷ ds) (number_text 9999999999 w n (omega arith) e) ∙ below_zero n more ∙ ap signed_decimal (same_some _ _ g)
    by_test false t g = absurd (cc)

minus_first : (w : List ℕ) → eqb (slice_index w 0) 45 ≡ true → w ≡ 45 ∷ drop 1 w
minus_first [] e = absurd (cc)
minus_first (x ∷ xs) e = let p : x ≡ 45 = grind (arith, nat_tests) in ap (λ n. n ∷ xs) p

coordinate_text : (w : List ℕ) (z : ℤ) → coordinate_of w ≡ Some z → w ≡ signed_decimal z
unfolding coordinate_of positive_of negative_of
coordinate_text w z e = by_test (eqb (slice_index w 0) 45) refl e
  where
    by_test : (b : Bool) → eqb (slice_index w 0) 45 ≡ b → cond b (negative_of (drop 1 w)) (positive_of w) ≡ Some z → w ≡ signed_decimal z
    by_test true t f = minus_first w t ∙ negative_text (drop 1 w) (number_up_to 9999999999 (drop 1 w)) z refl f
    by_test false t f = positive_text w (number_up_to 9999999999 w) z refl f

-- rectangles, values and records
made_is : (a b c d : ℤ) (r : Rectangle) → made_rectangle a b c d ≡ Some r → corners a b c d ≡ r
made_is a b c d r e = by_test (is_rectangle (corners a b c d)) e
  where
    by_test : (t : Bool) → cond t (Some (corners a b c d)) None ≡ Some r → corners a b c d ≡ r
    by_test true f = same_some _ _ f
    by_test false f = absurd (cc)

rectangle_texts : (a b c d : List ℕ) (r : Rectangle) → rectangle_in a b c d ≡ Ok r → a ∷ b ∷ c ∷ d ∷ [] ≡ corner_texts r
unfolding rectangle_in
rectangle_texts a b c d r e =
    let p = or_then_ok (coordinate_of a) Number _ r e in
    let q = or_then_ok (coordinate_of b) Number _ r p.2 in
    let s = or_then_ok (coordinate_of c) Number _ r q.2 in
    let t = or_then_ok (coordinate_of d) Number _ r s.2 in
    let m = or_then_ok (made_rectangle p.0 q.0 s.0 t.0) Rect Ok r t.2 in
    let k : corners p.0 q.0 s.0 t.0 ≡ r = made_is p.0 q.0 s.0 t.0 m.0 m.1 ∙ same_ok _ _ m.2 in
    ap (λ w. w ∷ b ∷ c ∷ d ∷ []) (coordinate_text a p.0 p.1)
    ∙ ap (λ w. signed_decimal p.0 ∷ w ∷ c ∷ d ∷ []) (coordinate_text b q.0 q.1)
    ∙ ap (λ w. signed_decimal p.0 ∷ signed_decimal q.0 ∷ w ∷ d ∷ []) (coordinate_text c s.0 s.1)
    ∙ ap (λ w. signed_decimal p.0 ∷ signed_decimal q.0 ∷ signed_decimal s.0 ∷ w ∷ []) (coordinate_text d t.0 t.1)
    ∙ ap corner_texts k

value_text : (w v : List ℕ) → value_in w ≡ Ok v → w ≡ v
unfolding value_in
value_text w v e = by_test (is_value w) e
  where
    by_test : (b : Bool) → ((cond b (Some w) None) or Value then Ok) ≡ Ok v → w ≡ v
    by_test true f = same_ok _ _ f
    by_test false f = absurd (cc)

abbrev made : ℕ → Rectangle → List ℕ → Record
made id rect value = record { id = id; rect = rect; value = value }

abbrev record_words : Record → List (List ℕ)
record_words r = decimal r.id ∷ corner_texts r.rect ++ r.value ∷ []

record_texts : (i a b c d v : List ℕ) (r : Record) → record_in i a b c d v ≡ Ok r → i ∷ a ∷ b ∷ c ∷ d ∷ v ∷ [] ≡ record_words r
unfolding record_in
record_texts i a b c d v r e =
    let p = and_then_ok (id_in i) (λ id. and_then (rectangle_in a b c d) λ rect. and_then (value_in v) λ value. Ok (made id rect value)) r e in
    let q = and_then_ok (rectangle_in a b c d) (λ rect. and_then (value_in v) λ value. Ok (made p.0 rect value)) r p.2 in
    let s = and_then_ok (value_in v) (λ value. Ok (made p.0 q.0 value)) r q.2 in
    ap (λ w. w ∷ a ∷ b ∷ c ∷ d ∷ v ∷ []) (id_text i p.0 p.1)
    ∙ ap (λ ws. decimal p.0 ∷ ws ++ v ∷ []) (rectangle_texts a b c d q.0 q.1)
    ∙ ap (λ w. decimal p.0 ∷ corner_texts q.0 ++ w ∷ []) (value_text v s.0 s.1)
    ∙ ap record_words (same_ok _ _ s.2)

-- operations
abbrev verb_word : Verb → List ℕ
verb_word PutWord = codes "put"
verb_word DropWord = codes "drop"
verb_word SetWord = codes "set"
verb_word GetWord = codes "get"
verb_word FindWord = codes "find"
verb_word FillWord = codes "fill"
verb_word ClearWord = codes "clear"

spelled_texts : (v : Verb) (ws : List (List ℕ)) (op : Op) → spelled v ws ≡ Ok op → verb_word v ∷ ws ≡ operation_words op
unfolding spelled
spelled_texts PutWord [] op h = absurd (cc)
spelled_texts PutWord (a ∷ []) op h = absurd (cc)
spelled_texts PutWord (a ∷ b ∷ []) op h = absurd (cc)
spelled_texts PutWord (a ∷ b ∷ c ∷ []) op h = absurd (cc)
spelled_texts PutWord (a ∷ b ∷ c ∷ d ∷ []) op h = absurd (cc)
spelled_texts PutWord (a ∷ b ∷ c ∷ d ∷ e ∷ []) op h = absurd (cc)
spelled_texts PutWord (a ∷ b ∷ c ∷ d ∷ e ∷ f ∷ []) op h =
    let r = and_then_ok (record_in a b c d e f) (λ r. Ok (Put r)) op h in let k = record_texts a b c d e f r.0 r.1 in let m = same_ok _ _ r.2 in ap (λ ws. codes "put" ∷ ws) k ∙ ap operation_words m
spelled_texts PutWord (a ∷ b ∷ c ∷ d ∷ e ∷ f ∷ g ∷ rest) op h = absurd (cc)
spelled_texts DropWord [] op h = absurd (cc)
spelled_texts DropWord (a ∷ []) op h =
    let i = and_then_ok (id_in a) (λ id. Ok (Drop id)) op h in ap (λ w. codes "drop" ∷ w ∷ []) (id_text a i.0 i.1) ∙ ap operation_words (same_ok _ _ i.2)
spelled_texts DropWord (a ∷ b ∷ rest) op h = absurd (cc)
spelled_texts SetWord [] op h = absurd (cc)
spelled_texts SetWord (a ∷ []) op h = absurd (cc)
spelled_texts SetWord (a ∷ b ∷ []) op h =
    let i = and_then_ok (id_in a) (λ id. and_then (value_in b) λ value. Ok (Set id value)) op h in let v = and_then_ok (value_in b) (λ value. Ok (Set i.0 value)) op i.2 in ap (λ w. codes "set" ∷ w ∷ b ∷ []) (id_text a i.0 i.1) ∙ ap (λ w. codes "set" ∷ decimal i.0 ∷ w ∷ []) (value_text b v.0 v.1) ∙ ap operation_words (same_ok _ _ v.2)
spelled_texts SetWord (a ∷ b ∷ c ∷ rest) op h = absurd (cc)
spelled_texts GetWord [] op h = absurd (cc)
spelled_texts GetWord (a ∷ []) op h =
    let i = and_then_ok (id_in a) (λ id. Ok (Get id)) op h in ap (λ w. codes "get" ∷ w ∷ []) (id_text a i.0 i.1) ∙ ap operation_words (same_ok _ _ i.2)
spelled_texts GetWord (a ∷ b ∷ rest) op h = absurd (cc)
spelled_texts FindWord [] op h = absurd (cc)
spelled_texts FindWord (a ∷ []) op h = absurd (cc)
spelled_texts FindWord (a ∷ b ∷ []) op h = absurd (cc)
spelled_texts FindWord (a ∷ b ∷ c ∷ []) op h = absurd (cc)
spelled_texts FindWord (a ∷ b ∷ c ∷ d ∷ []) op h =
    let r = and_then_ok (rectangle_in a b c d) (λ r. Ok (Find r)) op h in ap (λ ws. codes "find" ∷ ws) (rectangle_texts a b c d r.0 r.1) ∙ ap operation_words (same_ok _ _ r.2)
spelled_texts FindWord (a ∷ b ∷ c ∷ d ∷ e ∷ rest) op h = absurd (cc)
spelled_texts FillWord [] op h = absurd (cc)
spelled_texts FillWord (a ∷ []) op h = absurd (cc)
spelled_texts FillWord (a ∷ b ∷ []) op h = absurd (cc)
spelled_texts FillWord (a ∷ b ∷ c ∷ []) op h = absurd (cc)
spelled_texts FillWord (a ∷ b ∷ c ∷ d ∷ []) op h = absurd (cc)
spelled_texts FillWord (a ∷ b ∷ c ∷ d ∷ e ∷ []) op h =
    let r = and_then_ok (rectangle_in a b c d) (λ rect. and_then (value_in e) λ value. Ok (Fill rect value)) op h in let v = and_then_ok (value_in e) (λ value. Ok (Fill r.0 value)) op r.2 in ap (λ ws. codes "fill" ∷ ws ++ e ∷ []) (rectangle_texts a b c d r.0 r.1) ∙ ap (λ w. codes "fill" ∷ corner_texts r.0 ++ w ∷ []) (value_text e v.0 v.1) ∙ ap operation_words (same_ok _ _ v.2)
spelled_texts FillWord (a ∷ b ∷ c ∷ d ∷ e ∷ f ∷ rest) op h = absurd (cc)
spelled_texts ClearWord [] op h = absurd (cc)
spelled_texts ClearWord (a ∷ []) op h = absurd (cc)
spelled_texts ClearWord (a ∷ b ∷ []) op h = absurd (cc)
spelled_texts ClearWord (a ∷ b ∷ c ∷ []) op h = absurd (cc)
spelled_texts ClearWord (a ∷ b ∷ c ∷ d ∷ []) op h =
    let r = and_then_ok (rectangle_in a b c d) (λ r. Ok (Clear r)) op h in ap (λ ws. codes "clear" ∷ ws) (rectangle_texts a b c d r.0 r.1) ∙ ap operation_words (same_ok _ _ r.2)
spelled_texts ClearWord (a ∷ b ∷ c ∷ d ∷ e ∷ rest) op h = absurd (cc)

-- a word of a table, behind other words
abbrev AreNamed : {A : Type 0} → List (List ℕ) → (A → List (List ℕ)) → List (List ℕ × A) → Type 0
AreNamed front f [] = Unit {0}
AreNamed front f (e ∷ table) = (front ++ e.0 ∷ [] ≡ f e.1) × AreNamed front f table

found_named : {A : Type 0} (front : List (List ℕ)) (f : A → List (List ℕ)) (word : List ℕ) (table : List (List ℕ × A)) (x : A)
    → AreNamed front f table → found word table ≡ Some x → front ++ word ∷ [] ≡ f x
found_named front f word [] x n e = absurd (cc)
found_named {A} front f word (entry ∷ table) x n e = by_test (found_named front f word table x n.1) (bytes_eq word entry.0) refl e
  where
    by_test : (found word table ≡ Some x → front ++ word ∷ [] ≡ f x) → (b : Bool) → bytes_eq word entry.0 ≡ b → cond b (Some entry.1) (found word table) ≡ Some x
        → front ++ word ∷ [] ≡ f x
    by_test more true t g = ap (λ w. front ++ w ∷ []) ((bytes_eq-Decides word entry.0).0 t) ∙ n.0 ∙ ap f (same_some _ _ g)
    by_test more false t g = more g

operation_texts : (ws : List (List ℕ)) (op : Op) → operation_of ws ≡ Ok op → ws ≡ operation_words op
operation_texts [] op e = absurd (cc)
operation_texts (word ∷ others) op e =
    let v = or_then_ok (found word verbs) Command (λ verb. spelled verb others) op e in
    let n : word ∷ [] ≡ verb_word v.0 ∷ [] = found_named [] (λ u. verb_word u ∷ []) word verbs v.0 (refl, (refl, (refl, (refl, (refl, (refl, (refl, tt))))))) v.1 in
    let w : word ≡ verb_word v.0 = cc in
    ap (λ u. u ∷ others) w ∙ spelled_texts v.0 others op v.2

-- one word, or what else is given
bare_texts : {A : Type 0} (front : List (List ℕ)) (f : A → List (List ℕ)) (word : List ℕ) (others : List (List ℕ)) (o : Option A) (given : Result A Bad) (y : A)
    → (given ≡ Ok y → front ++ word ∷ others ≡ f y) → ((x : A) → o ≡ Some x → front ++ word ∷ [] ≡ f x) → bare_or o others given ≡ Ok y → front ++ word ∷ others ≡ f y
bare_texts front f word [] (Some x) given y more named e = named x refl ∙ ap f (same_ok _ _ e)
bare_texts front f word (other ∷ others) (Some x) given y more named e = absurd (cc)
bare_texts front f word others None given y more named e = more e

command_texts : (ws : List (List ℕ)) (c : Order) → command_of ws ≡ Ok c → ws ≡ command_words c
command_texts [] c e = absurd (cc)
command_texts (word ∷ others) c e =
    bare_texts [] command_words word others (found word commands) _ c
    (λ g. let p = and_then_ok (operation_of (word ∷ others)) (λ op. Ok (Do op)) c g in operation_texts (word ∷ others) p.0 p.1 ∙ ap command_words (same_ok _ _ p.2))
    (λ x h. found_named [] command_words word commands x (refl, (refl, (refl, tt))) h) e

-- events
start_texts : (s : ℕ) (word : List ℕ) (others : List (List ℕ)) (event : Event) (b : Bool) → bytes_eq word (codes "start") ≡ b
    → cond b (and_then (operation_of others) (λ op. Ok (Start s op))) (Err Command) ≡ Ok event → script_name s ∷ word ∷ others ≡ event_words event
start_texts s word others event true t e =
    let p = and_then_ok (operation_of others) (λ op. Ok (Start s op)) event e in
    ap (λ w. script_name s ∷ w ∷ others) ((bytes_eq-Decides word (codes "start")).0 t)
    ∙ ap (λ ws. script_name s ∷ codes "start" ∷ ws) (operation_texts others p.0 p.1)
    ∙ ap event_words (same_ok _ _ p.2)
start_texts s word others event false t e = absurd (cc)

event_texts : (s : ℕ) (ws : List (List ℕ)) (event : Event) → event_of s ws ≡ Ok event → script_name s ∷ ws ≡ event_words event
event_texts s [] event e = absurd (cc)
event_texts s (word ∷ others) event e =
    bare_texts (script_name s ∷ []) event_words word others (found word (events s)) _ event
    (λ g. start_texts s word others event (bytes_eq word (codes "start")) refl g)
    (λ x h. found_named (script_name s ∷ []) event_words word (events s) x (refl, (refl, (refl, (refl, (refl, (refl, (refl, tt))))))) h) e

kernel_texts : (ws : List (List ℕ)) (event : Event) → kernel_event ws ≡ Some event → ws ≡ event_words event
kernel_texts [] event e = absurd (cc)
kernel_texts (word ∷ []) event e = found_named [] event_words word ((codes "flush", Flush) ∷ (codes "clean", Clean) ∷ []) event (refl, (refl, tt)) e
kernel_texts (word ∷ other ∷ ws) event e = absurd (cc)

-- lines
link_texts : (ws : List (List ℕ)) (r : Result Order Bad) (s : Said) → command_of ws ≡ r → told None r ≡ Ok s → ws ≡ said_words s
link_texts ws (Ok c) s e f = command_texts ws c e ∙ ap said_words (same_ok _ _ f)
link_texts ws (Err bad) s e f = absurd (cc)

told_texts : (name : List ℕ) (u : ℕ) (ws : List (List ℕ)) (r : Result Order Bad) (s : Said) → session_of name ≡ Some u → command_of ws ≡ r → told (Some u) r ≡ Ok s
    → name ∷ ws ≡ said_words s
told_texts name u ws (Ok c) s n e f =
    ap (λ w. w ∷ ws) (session_named name u n) ∙ ap (λ x. script_name u ∷ x) (command_texts ws c e) ∙ ap said_words (same_ok _ _ f)
told_texts name u ws (Err bad) s n e f = absurd (cc)

stepped_texts : (name : List ℕ) (u : ℕ) (ws : List (List ℕ)) (r : Result Event Bad) (s : Said) → session_of name ≡ Some u → event_of u ws ≡ r → stepped u r ≡ Ok s
    → name ∷ ws ≡ said_words s
stepped_texts name u ws (Ok event) s n e f =
    ap (λ w. w ∷ ws) (session_named name u n) ∙ event_texts u ws event e ∙ ap said_words (same_ok _ _ f)
stepped_texts name u ws (Err bad) s n e f = absurd (cc)

session_texts : (name : List ℕ) (others : List (List ℕ)) (o : Option ℕ) (says : ℕ → Result Said Wrong) (s : Said) → session_of name ≡ o
    → ((u : ℕ) → session_of name ≡ Some u → says u ≡ Ok s → name ∷ others ≡ said_words s) → session_or o says ≡ Ok s → name ∷ others ≡ said_words s
session_texts name others None says s e h f = absurd (cc)
session_texts name others (Some u) says s e h f = h u e f

play_texts : (ws : List (List ℕ)) (s : Said) → play_said ws ≡ Ok s → ws ≡ said_words s
play_texts [] s e = absurd (cc)
play_texts (name ∷ others) s e =
    session_texts name others (session_of name) _ s refl (λ u n f. told_texts name u others (command_of others) s n refl f) e

drill_texts : (ws : List (List ℕ)) (s : Said) → drill_said ws ≡ Ok s → ws ≡ said_words s
drill_texts [] s e = absurd (cc)
drill_texts (name ∷ others) s e =
    session_texts name others (session_of name) _ s refl (λ u n f. stepped_texts name u others (event_of u others) s n refl f) e

step_texts : (ws : List (List ℕ)) (o : Option Event) (s : Said) → kernel_event ws ≡ o → step_or o (drill_said ws) ≡ Ok s → ws ≡ said_words s
step_texts ws (Some event) s e f = kernel_texts ws event e ∙ ap said_words (same_ok _ _ f)
step_texts ws None s e f = drill_texts ws s f

by_texts : (form : Form) (ws : List (List ℕ)) (s : Said) → said_by form ws ≡ Ok s → ws ≡ said_words s
by_texts Play ws s e = play_texts ws s e
by_texts Drill ws s e = step_texts ws (kernel_event ws) s refl e
by_texts OneSession ws s e = link_texts ws (command_of ws) s refl e

line_texts : (form : Form) (line : List ℕ) (s : Said) → said form line ≡ Ok s → words line ≡ said_words s
unfolding said
line_texts form line s e = by_length (nat_lt 512 (length line)) e
  where
    by_length : (b : Bool) → cond b (Err (wrong None Long)) (said_by form (words line)) ≡ Ok s → words line ≡ said_words s
    by_length true f = absurd (cc)
    by_length false f = by_texts form (words line) s f

-- so is what is read
pub spelled_as : (form : Form) (line : List ℕ) (r : Result Said TextError) → SaysAs (said form line) r → IfOk r (λ s. words line ≡ said_words s)
spelled_as form line (Ok s) e = line_texts form line s e
spelled_as form line (Err (BadLine session bad)) e = tt
spelled_as form line (Err Memory) e = tt
