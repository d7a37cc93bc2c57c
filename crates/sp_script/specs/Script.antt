-- The generated scripts.
use Rattle.std.specs.Prelude.{ℕ, suc, zero, ◌+◌, ◌*◌, ◌==◌, nat_lt, List, [], ◌++◌, codes, decimal, if◌then◌else◌}
use Rattle.sp_script.specs.Draws.{drawn, draw_of}
use Rattle.sp_script.specs.declared.draw.Draw.{Draw}

-- a space and a number
unfoldable pub spaced : ℕ → List ℕ
spaced number = codes " " ++ decimal number

-- ` X Y X+W Y+H`
unfoldable pub corner_words : Draw → List ℕ
corner_words d = spaced d.x ++ spaced d.y ++ spaced (d.x + d.width) ++ spaced (d.y + d.height)

-- ` vJ`, where J is the round's number
unfoldable pub value_words : ℕ → List ℕ
value_words round = codes " v" ++ decimal round

unfoldable pub put_words : ℕ → Draw → List ℕ
put_words round d = codes "put" ++ spaced d.id ++ corner_words d ++ value_words round

unfoldable pub find_words : Draw → List ℕ
find_words d = codes "find" ++ corner_words d

unfoldable pub set_words : ℕ → Draw → List ℕ
set_words round d = codes "set" ++ spaced d.id ++ value_words round

-- the operation of a draw: the kinds 0 to 3 are puts
unfoldable pub operation_words : ℕ → Draw → List ℕ
operation_words round d = if nat_lt d.kind 4 then put_words round d
    else (if d.kind == 4 then find_words d
    else (if d.kind == 5 then codes "drop" ++ spaced d.id
    else (if d.kind == 6 then set_words round d
    else codes "get" ++ spaced d.id)))

-- the session's line with these words
unfoldable pub line : List ℕ → List ℕ → List ℕ
line session words = session ++ codes " " ++ words ++ codes "\n"

-- the three sessions say the same
unfoldable pub all_say : List ℕ → List ℕ
all_say words = line (codes "A") words ++ line (codes "B") words ++ line (codes "C") words

-- three operations of a round, one of each session; each takes the next six numbers
unfoldable pub turns : ℕ → ℕ → List ℕ
turns round number =
    line (codes "A") (operation_words round (draw_of number)) ++ line (codes "B") (operation_words round (draw_of (drawn number 6)))
    ++ line (codes "C") (operation_words round (draw_of (drawn number 12)))

-- the round of this number, whose draws come behind that number
unfoldable pub round_text : ℕ → ℕ → List ℕ
round_text round number = all_say (codes "begin") ++ turns round number ++ turns round (drawn number 18) ++ all_say (codes "commit")

-- the rounds from 1 to the last, of 36 numbers each
unfoldable pub script_text : ℕ → ℕ → List ℕ
script_text seed zero = []
script_text seed (suc n) = script_text seed n ++ round_text (suc n) (drawn seed (36 * n))
