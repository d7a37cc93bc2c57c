-- The lines that are cut from bytes as they come are the lines of all the bytes.
use Rattle.std.proofs.Common.{rules, ◌≡◌, ℕ, ◌+◌, ◌<◌, Bool, true, false, not, cond, eqb, List, [], ◌∷◌, ◌++◌, fold, take, drop, length, get_or, refl, sym, ap, ◌∙◌, append_assoc}
use Rattle.std.proofs.lemmas.List.Sums.{fold-append, fold_more}
use Rattle.std.proofs.lemmas.List.{take-append-drop}
use Rattle.std.proofs.lemmas.List.Elements.{filter-append}
use Rattle.std.specs.Str.Lines.{strip_carriage_return}
use Rattle.sp_text.specs.Lines.{is_blank}
use Rattle.sp_lines.specs.Cutting.{Cut, cut_more, kept_more, cut_after, cut_whole, answered}

pub answered-append : (a b : List (List ℕ)) → answered (a ++ b) ≡ answered a ++ answered b
answered-append a b = filter-append (λ line. not (is_blank line)) a b

cut_at : List (List ℕ) → List ℕ → Cut
cut_at lines rest = record { lines = lines; rest = rest }

append-nil : {A : Type 0} (x : List A) → x ++ [] ≡ x
append-nil x = search rules

-- what was cut before stays in front
pub step_lines : (c : Cut) (b : ℕ) → (cut_more c b).lines ≡ c.lines ++ (cut_more (record { lines = []; rest = c.rest }) b).lines
unfolding cut_more
step_lines c b = by_test (eqb b 10)
  where
    by_test : (t : Bool) → (cond {A = Cut} t (record { lines = c.lines ++ strip_carriage_return c.rest ∷ []; rest = [] }) (record { lines = c.lines; rest = kept_more c.rest b })).lines
        ≡ c.lines ++ (cond {A = Cut} t (record { lines = strip_carriage_return c.rest ∷ []; rest = [] }) (record { lines = []; rest = kept_more c.rest b })).lines
    by_test true = refl
    by_test false = sym (append-nil c.lines)

pub step_rest : (c : Cut) (b : ℕ) → (cut_more c b).rest ≡ (cut_more (record { lines = []; rest = c.rest }) b).rest
unfolding cut_more
step_rest c b = by_test (eqb b 10)
  where
    by_test : (t : Bool) → (cond {A = Cut} t (record { lines = c.lines ++ strip_carriage_return c.rest ∷ []; rest = [] }) (record { lines = c.lines; rest = kept_more c.rest b })).rest
        ≡ (cond {A = Cut} t (record { lines = strip_carriage_return c.rest ∷ []; rest = [] }) (record { lines = []; rest = kept_more c.rest b })).rest
    by_test true = refl
    by_test false = refl

-- the same over many bytes
pub fold_rest : (c : Cut) (bytes : List ℕ) → (fold cut_more c bytes).rest ≡ (cut_after c.rest bytes).rest
fold_rest c [] = refl
fold_rest c (b ∷ bytes) =
    fold_rest (cut_more c b) bytes
    ∙ ap (λ r. (cut_after r bytes).rest) (step_rest c b)
    ∙ sym (fold_rest (cut_more (record { lines = []; rest = c.rest }) b) bytes)

pub fold_lines : (c : Cut) (bytes : List ℕ) → (fold cut_more c bytes).lines ≡ c.lines ++ (cut_after c.rest bytes).lines
fold_lines c [] = sym (append-nil c.lines)
fold_lines c (b ∷ bytes) =
    let d : Cut = cut_more (record { lines = []; rest = c.rest }) b in
    fold_lines (cut_more c b) bytes
    ∙ ap (λ l. l ++ (cut_after (cut_more c b).rest bytes).lines) (step_lines c b)
    ∙ ap (λ r. (c.lines ++ d.lines) ++ (cut_after r bytes).lines) (step_rest c b)
    ∙ append_assoc c.lines d.lines (cut_after d.rest bytes).lines
    ∙ ap (λ l. c.lines ++ l) (sym (fold_lines d bytes))

-- a piece after a piece
pub cut_pieces_lines : (rest xs ys : List ℕ) → (cut_after rest (xs ++ ys)).lines ≡ (cut_after rest xs).lines ++ (cut_after (cut_after rest xs).rest ys).lines
cut_pieces_lines rest xs ys = ap (λ (c : Cut). c.lines) (fold-append cut_more (record { lines = []; rest = rest }) xs ys) ∙ fold_lines (cut_after rest xs) ys

pub cut_pieces_rest : (rest xs ys : List ℕ) → (cut_after rest (xs ++ ys)).rest ≡ (cut_after (cut_after rest xs).rest ys).rest
cut_pieces_rest rest xs ys = ap (λ (c : Cut). c.rest) (fold-append cut_more (record { lines = []; rest = rest }) xs ys) ∙ fold_rest (cut_after rest xs) ys

-- a byte after some first bytes
pub cut_byte_lines : (rest bytes line : List ℕ) (i : ℕ) → i < length bytes → line ≡ (cut_after rest (take i bytes)).rest
    → (cut_after rest (take (i + 1) bytes)).lines ≡ (cut_after rest (take i bytes)).lines ++ (cut_after line (get_or bytes i 0 ∷ [])).lines
cut_byte_lines rest bytes line i lt e =
    ap (λ (c : Cut). c.lines) (fold_more cut_more (record { lines = []; rest = rest }) bytes i 0 lt)
    ∙ step_lines (cut_after rest (take i bytes)) (get_or bytes i 0)
    ∙ ap (λ r. (cut_after rest (take i bytes)).lines ++ (cut_after r (get_or bytes i 0 ∷ [])).lines) (sym e)

pub cut_byte_rest : (rest bytes line : List ℕ) (i : ℕ) → i < length bytes → line ≡ (cut_after rest (take i bytes)).rest
    → (cut_after rest (take (i + 1) bytes)).rest ≡ (cut_after line (get_or bytes i 0 ∷ [])).rest
cut_byte_rest rest bytes line i lt e =
    ap (λ (c : Cut). c.rest) (fold_more cut_more (record { lines = []; rest = rest }) bytes i 0 lt)
    ∙ step_rest (cut_after rest (take i bytes)) (get_or bytes i 0)
    ∙ ap (λ r. (cut_after r (get_or bytes i 0 ∷ [])).rest) (sym e)

-- the same of the lines that have an answer
pub answered_pieces : (rest xs ys line : List ℕ) → line ≡ (cut_after rest xs).rest
    → answered (cut_after rest (xs ++ ys)).lines ≡ answered (cut_after rest xs).lines ++ answered (cut_after line ys).lines
answered_pieces rest xs ys line e =
    ap answered (cut_pieces_lines rest xs ys ∙ ap (λ r. (cut_after rest xs).lines ++ (cut_after r ys).lines) (sym e))
    ∙ answered-append (cut_after rest xs).lines (cut_after line ys).lines

pub answered_byte : (rest bytes line : List ℕ) (i : ℕ) → i < length bytes → line ≡ (cut_after rest (take i bytes)).rest
    → answered (cut_after rest (take (i + 1) bytes)).lines ≡ answered (cut_after rest (take i bytes)).lines ++ answered (cut_after line (get_or bytes i 0 ∷ [])).lines
answered_byte rest bytes line i lt e =
    ap answered (cut_byte_lines rest bytes line i lt e)
    ∙ answered-append (cut_after rest (take i bytes)).lines (cut_after line (get_or bytes i 0 ∷ [])).lines

-- all lines, told by what is kept of the one that has not ended
pub answered_on : (bytes : List ℕ) → answered (cut_whole bytes) ≡ answered (cut_after [] bytes).lines ++ answered ((cut_after [] bytes).rest ∷ [])
answered_on bytes = answered-append (cut_after [] bytes).lines ((cut_after [] bytes).rest ∷ [])

pub answered_whole : (bytes line : List ℕ) → line ≡ (cut_after [] bytes).rest
    → answered (cut_whole bytes) ≡ answered (cut_after [] bytes).lines ++ answered (line ∷ [])
answered_whole bytes line e = answered_on bytes ∙ ap (λ r. answered (cut_after [] bytes).lines ++ answered (r ∷ [])) (sym e)

-- the bytes at a place and before it, and those behind
pub answered_split : (rest bytes : List ℕ) (i : ℕ)
    → answered (cut_after rest bytes).lines ≡ answered (cut_after rest (take i bytes)).lines ++ answered (cut_after (cut_after rest (take i bytes)).rest (drop i bytes)).lines
answered_split rest bytes i =
    ap (λ l. answered (cut_after rest l).lines) (sym (take-append-drop i bytes))
    ∙ answered_pieces rest (take i bytes) (drop i bytes) (cut_after rest (take i bytes)).rest refl
