-- The bytes before the next LF are kept at once.
use Rattle.std.proofs.Common.{rules, ◌≡◌, ◌≢◌, ℕ, zero, suc, ◌+◌, ◌-◌, ◌<◌, Bool, true, false, cond, ltb, List, [], ◌∷◌, ◌++◌, All, fold, take, drop, length, get_or, None, Some, refl, sym, ap, ◌∙◌, append_assoc, length-append, arith, slice_index_or}
use Rattle.std.proofs.lemmas.Bool.{ne_eqb, eqb-true, eq-eqb, ltb-true, ltb-false}
use Rattle.std.proofs.lemmas.List.{take-append-drop, get_or-take, get_or-drop, get_or_default, length-take}
use Rattle.std.proofs.lemmas.List.Elements.{All-from_get_or, All-head, All-tail}
use Rattle.std.proofs.Math.Seq.{drop-append_seam}
use Rattle.std.specs.Str.Lines.{strip_carriage_return}
use Rattle.memchr.specs.Find.{IsFirstByte, is_byte}
use Rattle.sp_lines.specs.Cutting.{Cut, cut_more, kept_more, cut_after, answered, IsBeforeNewline}
use Rattle.sp_lines.specs.Taking.{CutsOff}
use Rattle.sp_lines.proofs.Taking.{cuts_more}

append-nil : {A : Type 0} (x : List A) → x ++ [] ≡ x
append-nil x = search rules

-- a byte that is no LF
cut_plain : (lines : List (List ℕ)) (rest : List ℕ) (b : ℕ) → b ≢ 10 → cut_more (record { lines = lines; rest = rest }) b ≡ record { lines = lines; rest = kept_more rest b }
unfolding cut_more
cut_plain lines rest b n = ap (λ t. cond {A = Cut} t (record { lines = lines ++ strip_carriage_return rest ∷ []; rest = [] }) (record { lines = lines; rest = kept_more rest b })) (ne_eqb b 10 n)

-- bytes that are none
pub cut_front : (rest bytes : List ℕ) → All (λ (b : ℕ). b ≢ 10) bytes → cut_after rest bytes ≡ record { lines = []; rest = fold kept_more rest bytes }
cut_front rest [] plain = refl
cut_front rest (b ∷ bytes) plain = ap (λ c. fold cut_more c bytes) (cut_plain [] rest b (All-head (λ x. x ≢ 10) b bytes plain)) ∙ cut_front (kept_more rest b) bytes (All-tail (λ x. x ≢ 10) b bytes plain)

take_none : (n : ℕ) → take {A = ℕ} n [] ≡ []
take_none zero = refl
take_none (suc n) = refl

-- what is kept of bytes: those that have room
pub kept_front : (rest bytes : List ℕ) → fold kept_more rest bytes ≡ rest ++ take (514 - length rest) bytes
unfolding kept_more
kept_front rest [] = sym (ap (λ x. rest ++ x) (take_none (514 - length rest)) ∙ append-nil rest)
kept_front rest (b ∷ bytes) = by_test (ltb (length rest) 514) refl (kept_front (rest ++ b ∷ []) bytes) (kept_front rest bytes)
  where
    more : List ℕ
    more = rest ++ b ∷ []

    by_test : (t : Bool) → ltb (length rest) 514 ≡ t → fold kept_more more bytes ≡ more ++ take (514 - length more) bytes
        → fold kept_more rest bytes ≡ rest ++ take (514 - length rest) bytes → fold kept_more (cond t more rest) bytes ≡ rest ++ take (514 - length rest) (b ∷ bytes)
    by_test true e one none =
        let lt : length rest < 514 = ltb-true (length rest) 514 e in
        let room : 514 - length rest ≡ suc (514 - length more) = omega (arith, lt, length-append rest (b ∷ [])) in
        one ∙ append_assoc rest (b ∷ []) (take (514 - length more) bytes) ∙ ap (λ n. rest ++ take n (b ∷ bytes)) (sym room)
    by_test false e one none =
        let full : 514 - length rest ≡ 0 = omega (arith, ltb-false (length rest) 514 e) in
        none ∙ ap (λ n. rest ++ take n bytes) full ∙ sym (ap (λ n. rest ++ take n (b ∷ bytes)) full)

-- the bytes before an LF are cut off
pub cuts_front : (old new rest after front : List ℕ) (before : IsBeforeNewline front old) → new ≡ before.behind → after ≡ fold kept_more rest front → CutsOff old new rest [] after
cuts_front old new rest after front before e f =
    let cut = cut_front rest front before.plain in
    record {
      bytes = front;
      parts = before.parts ∙ ap (λ x. front ++ x) (sym e);
      ended = ap (λ (c : Cut). answered c.lines) cut;
      left = f ∙ sym (ap (λ (c : Cut). c.rest) cut);
    }

plus_none : (n : ℕ) → n + 0 ≡ n
plus_none n = omega arith

-- where an LF is found first
pub before_found : (bytes : List ℕ) (at : ℕ) → IsFirstByte (is_byte 10) bytes (Some at) → IsBeforeNewline (take at bytes) bytes
before_found bytes at h = record {
  behind = drop at bytes;
  parts = sym (take-append-drop at bytes);
  plain = All-from_get_or (λ b. b ≢ 10) (take at bytes) 0 (λ i lt e.
      let below : i < at = omega (arith, lt, length-take at bytes) in
      h.0.before i (omega arith) below (eq-eqb (get_or bytes i 0) 10 (sym (get_or-take at bytes i 0 below) ∙ e)));
  stops = get_or-drop at bytes 0 10 ∙ ap (λ n. get_or bytes n 10) (plus_none at) ∙ get_or_default bytes at 10 0 h.0.high ∙ eqb-true (get_or bytes at 0) 10 h.1;
}

pub before_none : (bytes : List ℕ) → IsFirstByte (is_byte 10) bytes None → IsBeforeNewline bytes bytes
before_none bytes h = record {
  behind = [];
  parts = sym (append-nil bytes);
  plain = All-from_get_or (λ b. b ≢ 10) bytes 0 (λ i lt e. h i (omega arith) lt (eq-eqb (get_or bytes i 0) 10 e));
  stops = refl;
}

-- what is left behind these bytes
pub behind_front : (front bytes : List ℕ) (before : IsBeforeNewline front bytes) → drop (length front) bytes ≡ before.behind
behind_front front bytes before = ap (drop (length front)) before.parts ∙ drop-append_seam front before.behind

-- the LF itself
cuts_newline : (old new rest after : List ℕ) (b : ℕ) (more : List (List ℕ)) → slice_index_or old 0 10 ≡ 10 → old ≡ b ∷ new
    → answered (cut_after rest (10 ∷ [])).lines ≡ more → (cut_after rest (10 ∷ [])).rest ≡ after → CutsOff old new rest more after
cuts_newline old new rest after b more stops e f g = record {
  bytes = 10 ∷ [];
  parts = e ∙ ap (λ x. x ∷ new) (sym (ap (λ (x : List ℕ). get_or x 0 10) e) ∙ stops);
  ended = f;
  left = sym g;
}

-- a line's bytes up to its LF, behind what was cut off before
pub cuts_turn : (old mid far new rest front kept after : List ℕ) (b : ℕ) (more : List (List ℕ)) → CutsOff old mid rest [] front → CutsOff mid far front [] kept
    → slice_index_or far 0 10 ≡ 10 → far ≡ b ∷ new → answered (cut_after kept (10 ∷ [])).lines ≡ more → (cut_after kept (10 ∷ [])).rest ≡ after
    → CutsOff old new rest more after
cuts_turn old mid far new rest front kept after b more p q stops e f g =
    cuts_more old far new rest kept after [] more (cuts_more old mid far rest front kept [] [] p q) (cuts_newline far new kept after b more stops e f g)
