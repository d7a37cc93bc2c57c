-- What was read of a source and not yet cut.
use Rattle.std.specs.Prelude.{ℕ, List}

-- the bytes, and how many may still be read
pub record Pending : Type 0 where
  pub bytes : List ℕ
  pub room : ℕ
