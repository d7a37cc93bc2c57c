-- The names of sessions, locks and modes in texts.
use Rattle.std.specs.Prelude.{ℕ, ◌+◌, ◌-◌, ◌*◌, ◌/◌, ◌%◌, ◌&&◌, nat_lt, nat_le, List, [], ◌∷◌, ◌++◌, Option, Some, None, codes, decimal, if◌then◌else◌}
use Rattle.std.specs.Option.{option_map}
use Rattle.sp_locks.specs.declared.mode.Mode.{Mode}
use Rattle.sp_locks.specs.declared.mode.Mode.TheVariants.{IS, IX, S, SIX, X}
use Rattle.sp_locks.specs.declared.row.Name.{Name}
use Rattle.sp_locks.specs.declared.row.Name.TheVariants.{Granule, Object}
use Rattle.sp_text.specs.Numbers.{is_decimal_digit}
use Rattle.sp_text.specs.declared.form.Form.{Form}
use Rattle.sp_text.specs.declared.form.Form.TheVariants.{Session}

-- no digit for 0, one digit for 1 to 10, two digits for 11 to 110
unfoldable pub digits_word : ℕ → List ℕ
digits_word k = if nat_lt k 1 then []
    else (if nat_lt k 11 then (48 + (k - 1)) ∷ [] else (48 + (k - 11) / 10) ∷ (48 + (k - 11) % 10) ∷ [])

-- a letter and no, one or two digits: a script has 2886 sessions, 111 to a letter
unfoldable pub script_name : ℕ → List ℕ
script_name session = (65 + session / 111) ∷ digits_word (session % 111)

-- a session by its name in a script, and by its number over a link
unfoldable pub session_word : Form → ℕ → List ℕ
session_word Session session = decimal session
session_word form session = if nat_lt session 2886 then script_name session else decimal session

-- no digit, one or two: the other way round
abbrev pub digits_count : List ℕ → Option ℕ
digits_count [] = Some 0
digits_count (d ∷ []) = if is_decimal_digit d then Some (1 + (d - 48)) else None
digits_count (d ∷ e ∷ []) = if is_decimal_digit d && is_decimal_digit e then Some (11 + (10 * (d - 48) + (e - 48))) else None
digits_count _ = None

-- the session that the word names in a script
abbrev pub session_of : List ℕ → Option ℕ
session_of [] = None
session_of (letter ∷ digits) =
    if nat_le 65 letter && nat_le letter 90 then option_map (λ k. 111 * (letter - 65) + k) (digits_count digits) else None

abbrev pub mode_word : Mode → List ℕ
mode_word IS = codes "IS"
mode_word IX = codes "IX"
mode_word S = codes "S"
mode_word SIX = codes "SIX"
mode_word X = codes "X"

unfoldable pub name_words : Name → List ℕ
name_words (Granule number) = codes "granule " ++ decimal number
name_words (Object id) = codes "object " ++ decimal id
