-- Names of files in words.
use Rattle.std.specs.Prelude.{ℕ, Bool, ◌&&◌, ◌||◌, ◌==◌, not, nat_le, nat_lt, List, length, slice_index}
use Rattle.std.specs.List.{list_all}

abbrev pub is_letter_or_digit : ℕ → Bool
is_letter_or_digit b = (nat_le 48 b && nat_le b 57) || (nat_le 65 b && nat_le b 90) || (nat_le 97 b && nat_le b 122)

-- `.`, `_`, `-` or `/`
abbrev pub is_mark : ℕ → Bool
is_mark b = b == 46 || b == 95 || b == 45 || b == 47

abbrev pub is_name_byte : ℕ → Bool
is_name_byte b = is_letter_or_digit b || is_mark b

-- 1 to 251 such bytes, of which the first is no `-`
unfoldable pub is_name : List ℕ → Bool
is_name word = nat_lt 0 (length word) && nat_le (length word) 251 && not (slice_index word 0 == 45) && list_all is_name_byte word
