-- The lines that are cut from bytes as they come are those of the bytes, and what is kept of a long line tells the same.
use Rattle.std.proofs.Common.{rules, ◌≡◌, ℕ, ◌-◌, ◌<◌, ◌≤◌, ◌⊎◌, inl, inr, Bool, true, false, not, cond, eqb, nat_lt, List, [], ◌∷◌, ◌++◌, map, fold, take, length, get_or, None, Result, Err, refl, sym, ap, ◌∙◌, append_assoc, length-append, arith, slice_index}
use Rattle.std.proofs.lemmas.Bool.{cases_lt}
use Rattle.std.proofs.lemmas.Bool.Decides.{nat_tests}
use Rattle.std.proofs.lemmas.List.{take_all, take-append-le, length-take, length-take-le, get_or-take, map-append}
use Rattle.std.specs.List.{All, slice_split}
use Rattle.std.proofs.lemmas.List.Elements.{All-append, All-nil}
use Rattle.std.proofs.lemmas.List.Splits.{slice_split_none, slice_split_at, length-slice_split}
use Rattle.std.specs.Str.Lines.{strip_carriage_return, lines_of_parts, lines as lines_of}
use Rattle.sp_text.specs.Grammar.{said, Wrong, wrong}
use Rattle.sp_text.specs.Lines.{is_blank, lines}
use Rattle.sp_text.specs.declared.form.Form.{Form}
use Rattle.sp_text.specs.declared.types.Bad.TheVariants.{Long}
use Rattle.sp_text.specs.declared.types.Said.{Said}
use Rattle.sp_lines.specs.Cutting.{Cut, cut_more, kept_more, cut_after, cut_whole, answered}
use Rattle.sp_lines.proofs.CutLines.{fold_lines, fold_rest, answered-append}

append-nil : {A : Type 0} (x : List A) → x ++ [] ≡ x
append-nil x = search rules

abbrev too_long : Wrong
too_long = wrong None Long

-- the lines from a front of a line on, all of it kept
abbrev whole : List ℕ → List ℕ → List (List ℕ)
whole rest [] = rest ∷ []
whole rest (b ∷ bytes) = cond (eqb b 10) (strip_carriage_return rest ∷ whole [] bytes) (whole (rest ++ b ∷ []) bytes)

abbrev lines_in : Cut → List (List ℕ)
lines_in c = c.lines ++ c.rest ∷ []

record SameFront (l m : List ℕ) : Type 0 where
  long : 512 < length l
  head : get_or l 0 0 ≡ get_or m 0 0

strip_long : (l : List ℕ) → 513 < length l → SameFront (strip_carriage_return l) l
strip_long l h = by_test (eqb (slice_index l (length l - 1)) 13)
  where
    by_test : (t : Bool) → SameFront (cond t (take (length l - 1) l) l) l
    by_test true = record { long = omega (arith, length-take (length l - 1) l); head = get_or-take (length l - 1) l 0 0 (omega arith) }
    by_test false = record { long = omega arith; head = refl }

kept_more_is : (rest stored : List ℕ) (b : ℕ) → stored ≡ take 514 rest → kept_more stored b ≡ take 514 (rest ++ b ∷ [])
unfolding kept_more
kept_more_is rest stored b e = by_cases (cases_lt (length rest) 514)
  where
    by_cases : (length rest < 514) ⊎ (514 ≤ length rest) → cond (nat_lt (length stored) 514) (stored ++ b ∷ []) stored ≡ take 514 (rest ++ b ∷ [])
    by_cases (inl h) =
        let whole : stored ≡ rest = e ∙ take_all 514 rest (omega arith) in
        let t : nat_lt (length rest) 514 ≡ true = grind (arith, nat_tests) in
        rw (whole, t) (sym (take_all 514 (rest ++ b ∷ []) (omega (arith, length-append rest (b ∷ [])))))
    by_cases (inr h) =
        let n : length (take 514 rest) ≡ 514 = length-take-le 514 rest h in
        let t : nat_lt (length stored) 514 ≡ false = ap (λ l. nat_lt (length l) 514) e ∙ ap (λ k. nat_lt k 514) n in
        rw t (e ∙ sym (take-append-le 514 rest (b ∷ []) h))

module _ (form : Form) where
  abbrev says : List (List ℕ) → List (Result Said Wrong)
  says l = map (said form) (answered l)

  map_answered-append : (a b : List (List ℕ)) → says (a ++ b) ≡ says a ++ says b
  map_answered-append a b = ap (map (said form)) (answered-append a b) ∙ map-append (said form) (answered a) (answered b)

  -- a line of more than 512 bytes is bad, or blank by its first byte
  said_long : (line : List ℕ) → 512 < length line → said form line ≡ Err too_long
  unfolding said
  said_long line h = let t : nat_lt 512 (length line) ≡ true = grind (arith, nat_tests) in rw t refl

  says_long : (line : List ℕ) → 512 < length line → says (line ∷ []) ≡ cond (eqb (get_or line 0 0) 35) [] (Err too_long ∷ [])
  says_long [] h = absurd (omega arith)
  says_long (x ∷ xs) h = by_test (eqb x 35)
    where
      by_test : (t : Bool) → map (said form) (cond (not t) ((x ∷ xs) ∷ []) []) ≡ cond t [] (Err too_long ∷ [])
      by_test true = refl
      by_test false = ap (λ s. s ∷ []) (said_long (x ∷ xs) h)

  long_same : (l m : List ℕ) → 512 < length l → 512 < length m → get_or l 0 0 ≡ get_or m 0 0 → says (l ∷ []) ≡ says (m ∷ [])
  long_same l m h k e = says_long l h ∙ ap (λ x. cond (eqb x 35) [] (Err too_long ∷ [])) e ∙ sym (says_long m k)

  kept_same : (rest : List ℕ) → says (take 514 rest ∷ []) ≡ says (rest ∷ [])
  kept_same rest = by_cases (cases_lt 514 (length rest))
    where
      by_cases : (514 < length rest) ⊎ (length rest ≤ 514) → says (take 514 rest ∷ []) ≡ says (rest ∷ [])
      by_cases (inl h) = long_same (take 514 rest) rest (omega (arith, length-take 514 rest)) (omega arith) (get_or-take 514 rest 0 0 (omega arith))
      by_cases (inr h) = ap (λ l. says (l ∷ [])) (take_all 514 rest h)

  strip_same : (rest : List ℕ) → says (strip_carriage_return (take 514 rest) ∷ []) ≡ says (strip_carriage_return rest ∷ [])
  strip_same rest = by_cases (cases_lt 514 (length rest))
    where
      by_cases : (514 < length rest) ⊎ (length rest ≤ 514) → says (strip_carriage_return (take 514 rest) ∷ []) ≡ says (strip_carriage_return rest ∷ [])
      by_cases (inl h) =
          let a : SameFront (strip_carriage_return (take 514 rest)) (take 514 rest) = strip_long (take 514 rest) (omega (arith, length-take 514 rest)) in
          let b : SameFront (strip_carriage_return rest) rest = strip_long rest (omega arith) in
          long_same _ _ a.long b.long (a.head ∙ get_or-take 514 rest 0 0 (omega arith) ∙ sym b.head)
      by_cases (inr h) = ap (λ l. says (strip_carriage_return l ∷ [])) (take_all 514 rest h)

  says-cons : (l : List ℕ) (ls : List (List ℕ)) → says (l ∷ ls) ≡ says (l ∷ []) ++ says ls
  says-cons l ls = map_answered-append (l ∷ []) ls

  kept_step : (rest stored bytes : List ℕ) (b : ℕ) (t : Bool) → stored ≡ take 514 rest
      → says (lines_in (cut_after [] bytes)) ≡ says (whole [] bytes)
      → says (lines_in (cut_after (kept_more stored b) bytes)) ≡ says (whole (rest ++ b ∷ []) bytes)
      → says (lines_in (fold cut_more (cond {A = Cut} t (record { lines = strip_carriage_return stored ∷ []; rest = [] }) (record { lines = []; rest = kept_more stored b })) bytes))
      ≡ says (cond t (strip_carriage_return rest ∷ whole [] bytes) (whole (rest ++ b ∷ []) bytes))
  kept_step rest stored bytes b true e p q =
      let c : Cut = record { lines = strip_carriage_return stored ∷ []; rest = [] } in
      ap (λ l. says (l ++ (fold cut_more c bytes).rest ∷ [])) (fold_lines c bytes)
      ∙ ap (λ r. says ((strip_carriage_return stored ∷ (cut_after [] bytes).lines) ++ r ∷ [])) (fold_rest c bytes)
      ∙ says-cons (strip_carriage_return stored) (lines_in (cut_after [] bytes))
      ∙ ap (λ x. x ++ says (lines_in (cut_after [] bytes))) (ap (λ l. says (strip_carriage_return l ∷ [])) e ∙ strip_same rest)
      ∙ ap (λ x. says (strip_carriage_return rest ∷ []) ++ x) p
      ∙ sym (says-cons (strip_carriage_return rest) (whole [] bytes))
  kept_step rest stored bytes b false e p q = q

  says_kept : (rest stored bytes : List ℕ) → stored ≡ take 514 rest → says (lines_in (cut_after stored bytes)) ≡ says (whole rest bytes)
  unfolding cut_more
  says_kept rest stored [] e = ap (λ l. says (l ∷ [])) e ∙ kept_same rest
  says_kept rest stored (b ∷ bytes) e =
      kept_step rest stored bytes b (eqb b 10) e (says_kept [] [] bytes refl)
      (says_kept (rest ++ b ∷ []) (kept_more stored b) bytes (kept_more_is rest stored b e))

-- the same as std's lines, but for blank ones
abbrev NoNewline : List ℕ → Type 0
NoNewline rest = All (λ x. eqb x 10 ≡ false) rest

parts_cons : (x : List ℕ) (parts : List (List ℕ)) → 0 < length parts → lines_of_parts (x ∷ parts) ≡ strip_carriage_return x ∷ lines_of_parts parts
parts_cons x [] h = absurd (omega arith)
parts_cons x (y ∷ more) h = refl

abbrev onto : List ℕ → List (List ℕ) → List (List ℕ)
onto x l = cond (not (is_blank x)) (x ∷ l) l

answered-onto : (x : List ℕ) (l : List (List ℕ)) → answered (x ∷ l) ≡ onto x (answered l)
answered-onto x l = refl

last_part : (rest : List ℕ) → answered (rest ∷ []) ≡ answered (cond (eqb (length rest) 0) [] (rest ∷ []))
last_part [] = refl
last_part (x ∷ xs) =
    let t : eqb (length (x ∷ xs)) 0 ≡ false = grind (arith, nat_tests) in
    rw t refl

whole_step : (rest bytes : List ℕ) (b : ℕ) (t : Bool) → eqb b 10 ≡ t → NoNewline rest
    → answered (whole [] bytes) ≡ answered (lines_of bytes)
    → (NoNewline (rest ++ b ∷ []) → answered (whole (rest ++ b ∷ []) bytes) ≡ answered (lines_of ((rest ++ b ∷ []) ++ bytes)))
    → answered (cond t (strip_carriage_return rest ∷ whole [] bytes) (whole (rest ++ b ∷ []) bytes)) ≡ answered (lines_of (rest ++ b ∷ bytes))
whole_step rest bytes b true e none p q =
    ap (onto (strip_carriage_return rest)) p
    ∙ sym (ap answered (ap lines_of_parts (slice_split_at (λ x. eqb x 10) rest b bytes none e)
    ∙ parts_cons rest (slice_split (λ x. eqb x 10) bytes) (omega (arith, length-slice_split (λ x. eqb x 10) bytes))))
whole_step rest bytes b false e none p q =
    q (All-append (λ x. eqb x 10 ≡ false) rest (b ∷ []) none (search (rules, e)))
    ∙ ap (λ l. answered (lines_of l)) (append_assoc rest (b ∷ []) bytes)

whole_is : (rest bytes : List ℕ) → NoNewline rest → answered (whole rest bytes) ≡ answered (lines_of (rest ++ bytes))
whole_is rest [] none =
    last_part rest
    ∙ sym (ap answered (ap lines_of_parts (ap (slice_split (λ x. eqb x 10)) (append-nil rest) ∙ slice_split_none (λ x. eqb x 10) rest none)))
whole_is rest (b ∷ bytes) none =
    whole_step rest bytes b (eqb b 10) refl none (whole_is [] bytes (All-nil (λ x. eqb x 10 ≡ false))) (whole_is (rest ++ b ∷ []) bytes)

-- the lines that are cut say what the lines of the bytes do
pub heard_whole : (form : Form) (bytes : List ℕ) → map (said form) (answered (cut_whole bytes)) ≡ map (said form) (lines bytes)
heard_whole form bytes =
    says_kept form [] [] bytes refl ∙ ap (map (said form)) (whole_is [] bytes (All-nil (λ x. eqb x 10 ≡ false)))
