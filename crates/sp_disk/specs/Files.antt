-- What a write and a cut do to a file, and what a stop may leave of them.
use Rattle.std.specs.Prelude.{◌≡◌, ◌≤◌, ℕ, ◌+◌, min, max, List, ◌++◌, length, take, drop}
use Rattle.std.proofs.Math.ListN.{replicate}

-- The file with these bytes at this offset. A gap behind its old end is filled with zeros.
abbrev pub put : List ℕ → ℕ → List ℕ → List ℕ
put file at bytes = take at (file ++ replicate at 0) ++ bytes ++ drop (at + length bytes) file

-- After a write of n bytes that a stop cuts short: any bytes in the range and behind the old end, the
-- others as they were, and any length between.
pub record Torn (at n : ℕ) (old new : List ℕ) : Type 0 where
  pub before : take (min at (length old)) new ≡ take at old
  pub behind : drop (at + n) new ≡ drop (at + n) old
  pub no_shorter : length old ≤ length new
  pub no_longer : length new ≤ max (length old) (at + n)

-- After a cut that a stop may undo in part: a front of the old file, of any length between.
pub record Shortened (len : ℕ) (old new : List ℕ) : Type 0 where
  pub front : new ≡ take (length new) old
  pub no_shorter : min len (length old) ≤ length new
