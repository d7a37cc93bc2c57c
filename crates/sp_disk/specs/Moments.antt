-- The files that a stop may leave, moment by moment.
use Rattle.std.specs.Prelude.{ℕ, ◌+◌, ◌≤◌, ◌↔◌, List}

-- A call is at most one moment, and leaves what a stop at an earlier one might have left.
pub record Passes (before now : ℕ) (old new : ℕ → List ℕ → Type 0) : Type 0 where
  pub later : before ≤ now
  pub step : now ≤ before + 1
  pub past : (k : ℕ) (file : List ℕ) → k ≤ before → new k file ↔ old k file

-- A stop at any moment from the one to the other leaves a file that has P, and what was before is kept.
pub record LeavesOnly (before now : ℕ) (old new : ℕ → List ℕ → Type 0) (P : List ℕ → Type 0) : Type 0 where
  pub later : before ≤ now
  pub each : (k : ℕ) (file : List ℕ) → before ≤ k → k ≤ now → new k file → P file
  pub past : (k : ℕ) (file : List ℕ) → k ≤ before → new k file ↔ old k file
