-- Pieces of bytes put one behind the other, and how long they are.
use Rattle.std.proofs.Common.{◌≡◌, ◌≤◌, ℕ, Bool, true, false, ◌&&◌, List, ◌++◌, length, refl, append_assoc, tests, rules, leb}
use Rattle.byteorder.specs.Numbers.{length-bytes_high_first}
use Rattle.sp_rect.specs.Value.{is_value}
use Rattle.sp_journal.specs.Format.{u32_bytes, u64_bytes}

pub four : (out a b c d a' b' c' d' o1 o2 o3 o4 : List ℕ) → o1 ≡ out ++ a' → o2 ≡ o1 ++ b' → o3 ≡ o2 ++ c' → o4 ≡ o3 ++ d' → a' ≡ a → b' ≡ b → c' ≡ c → d' ≡ d → o4 ≡ out ++ (((a ++ b) ++ c) ++ d)
four out a b c d a' b' c' d' o1 o2 o3 o4 e1 e2 e3 e4 ea eb ec ed = rw (e4, e3, e2, e1, ea, eb, ec, ed) (simp append_assoc)

and_left : (a b : Bool) → (a && b) ≡ true → a ≡ true
and_left true b is = refl
and_left false b is = is

and_right : (a b : Bool) → (a && b) ≡ true → b ≡ true
and_right true b is = is
and_right false b is = cc

pub value_short : (v : List ℕ) → is_value v ≡ true → length v ≤ 64
unfolding is_value
value_short v is = let short : leb (length v) 64 ≡ true = and_left _ _ (and_right (leb 1 (length v)) _ is) in search (rules, tests)

pub length-u32 : (n : ℕ) → length (u32_bytes n) ≡ 4
unfolding u32_bytes
length-u32 n = length-bytes_high_first 4 n

pub length-u64 : (n : ℕ) → length (u64_bytes n) ≡ 8
unfolding u64_bytes
length-u64 n = length-bytes_high_first 8 n
