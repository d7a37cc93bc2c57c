-- How long a generated script is at most.
use Rattle.std.proofs.Common.{◌≡◌, ◌<◌, ◌≤◌, ℕ, zero, suc, ◌+◌, ◌*◌, ◌^◌, Bool, true, false, cond, List, ◌++◌, length, ap, arith}
use Rattle.std.specs.Prelude.{codes, decimal, nat_lt, ◌==◌}
use Rattle.std.proofs.lemmas.List.{length-append}
use Rattle.std.proofs.lemmas.Fmt.{length-decimal-le}
use Rattle.sp_script.specs.Draws.{drawn, draw_of}
use Rattle.sp_script.specs.Script.{spaced, corner_words, value_words, put_words, find_words, set_words, operation_words, line, all_say, turns, round_text, script_text}

-- the numbers of a draw have at most five digits
abbrev FiveDigits : ℕ → Type 0
FiveDigits n = n < 10 ^ 5

draw_short : (number : ℕ) → FiveDigits (draw_of number).id × FiveDigits (draw_of number).x × FiveDigits (draw_of number).y
    × FiveDigits ((draw_of number).x + (draw_of number).width) × FiveDigits ((draw_of number).y + (draw_of number).height)
unfolding draw_of
draw_short number = (omega arith, omega arith, omega arith, omega arith, omega arith)

spaced_short : (n : ℕ) → FiveDigits n → length (spaced n) ≤ 6
unfolding spaced
spaced_short n h =
    let digits : length (decimal n) ≤ 5 = length-decimal-le 5 n (omega arith) h (omega arith) in
    omega (arith, length-append (codes " ") (decimal n))

value_short : (round : ℕ) → FiveDigits round → length (value_words round) ≤ 7
unfolding value_words
value_short round h =
    let digits : length (decimal round) ≤ 5 = length-decimal-le 5 round (omega arith) h (omega arith) in
    omega (arith, length-append (codes " v") (decimal round))

-- four lists, one after the other
four : (a b c d : List ℕ) → length (a ++ b ++ c ++ d) ≡ length a + length b + length c + length d
four a b c d = omega (arith, length-append (a ++ b ++ c) d, length-append (a ++ b) c, length-append a b)

-- of two texts that are short each is
either_short : (b : Bool) (x y : List ℕ) → length x ≤ 40 → length y ≤ 40 → length (cond b x y) ≤ 40
either_short true x y p q = p
either_short false x y p q = q

module _ (number : ℕ) where
  id_short : length (spaced (draw_of number).id) ≤ 6
  id_short = spaced_short (draw_of number).id (draw_short number).0

  corners_short : length (corner_words (draw_of number)) ≤ 24
  unfolding corner_words
  corners_short =
      let s = draw_short number in
      omega (
        arith,
        four (spaced (draw_of number).x) (spaced (draw_of number).y) (spaced ((draw_of number).x + (draw_of number).width)) (spaced ((draw_of number).y + (draw_of number).height)),
        spaced_short (draw_of number).x s.1,
        spaced_short (draw_of number).y s.2,
        spaced_short ((draw_of number).x + (draw_of number).width) s.3,
        spaced_short ((draw_of number).y + (draw_of number).height) s.4,
      )

  find_short : length (find_words (draw_of number)) ≤ 40
  unfolding find_words
  find_short = omega (arith, length-append (codes "find") (corner_words (draw_of number)), corners_short)

  word_short : (word : List ℕ) → length word ≤ 4 → length (word ++ spaced (draw_of number).id) ≤ 40
  word_short word h = omega (arith, length-append word (spaced (draw_of number).id), id_short)

  module _ (round : ℕ) (h : FiveDigits round) where
    put_short : length (put_words round (draw_of number)) ≤ 40
    unfolding put_words
    put_short = omega (arith, four (codes "put") (spaced (draw_of number).id) (corner_words (draw_of number)) (value_words round), id_short, corners_short, value_short round h)

    set_short : length (set_words round (draw_of number)) ≤ 40
    unfolding set_words
    set_short =
        omega (arith, length-append (codes "set" ++ spaced (draw_of number).id) (value_words round), length-append (codes "set") (spaced (draw_of number).id), id_short, value_short round h)

    operation_short : length (operation_words round (draw_of number)) ≤ 40
    unfolding operation_words
    operation_short =
        either_short (nat_lt (draw_of number).kind 4) _ _ put_short
        (either_short ((draw_of number).kind == 4) _ _ find_short
        (either_short ((draw_of number).kind == 5) _ _ (word_short (codes "drop") (omega arith))
        (either_short ((draw_of number).kind == 6) _ _ set_short (word_short (codes "get") (omega arith)))))

line_short : (session words : List ℕ) → length session ≤ 1 → length words ≤ 40 → length (line session words) ≤ 43
unfolding line
line_short session words h s = omega (arith, four session (codes " ") words (codes "\n"))

-- three lists, one after the other
three : (a b c : List ℕ) → length a ≤ 43 → length b ≤ 43 → length c ≤ 43 → length (a ++ b ++ c) ≤ 129
three a b c p q r = omega (arith, length-append (a ++ b) c, length-append a b)

all_short : (words : List ℕ) → length words ≤ 40 → length (all_say words) ≤ 129
unfolding all_say
all_short words h = three (line (codes "A") words) (line (codes "B") words) (line (codes "C") words)
    (line_short (codes "A") words (omega arith) h) (line_short (codes "B") words (omega arith) h) (line_short (codes "C") words (omega arith) h)

turns_short : (round number : ℕ) → FiveDigits round → length (turns round number) ≤ 129
unfolding turns
turns_short round number h = three _ _ _ (each (codes "A") number (omega arith)) (each (codes "B") (drawn number 6) (omega arith)) (each (codes "C") (drawn number 12) (omega arith))
  where
    each : (session : List ℕ) (n : ℕ) → length session ≤ 1 → length (line session (operation_words round (draw_of n))) ≤ 43
    each session n s = line_short session (operation_words round (draw_of n)) s (operation_short n round h)

round_short : (round number : ℕ) → FiveDigits round → length (round_text round number) ≤ 516
unfolding round_text
round_short round number h = omega (
  arith,
  four (all_say (codes "begin")) (turns round number) (turns round (drawn number 18)) (all_say (codes "commit")),
  all_short (codes "begin") (omega arith),
  turns_short round number h,
  turns_short round (drawn number 18) h,
  all_short (codes "commit") (omega arith),
)

-- fewer than 10 ^ 5 rounds have at most 516 bytes each
script_short : (seed count : ℕ) → count < 10 ^ 5 → length (script_text seed count) ≤ 516 * count
unfolding script_text
script_short seed zero h = omega arith
script_short seed (suc n) h =
    omega (arith, length-append (script_text seed n) (round_text (suc n) (drawn seed (36 * n))), script_short seed n (omega arith), round_short (suc n) (drawn seed (36 * n)) h)

-- so it is shorter than what a run reads at most
pub script_fits : (seed count : ℕ) (text : List ℕ) → count ≤ 10000 → text ≡ script_text seed count → length text < 2 ^ 32
script_fits seed count text h e = omega (arith, ap length e, script_short seed count (omega arith))
