-- The end of the dead list that takes what dies.
use Rattle.std.specs.Prelude.{◌≡◌, ℕ, ◌≤◌, List, [], ◌∷◌, length, take, drop}
use Rattle.std.specs.List.{AllByRecursion}
use Rattle.sp_node.specs.declared.node.Entry.{Entry}
use Rattle.sp_model.specs.Moves.{dead_among, newly_dead}
use Rattle.sp_model.specs.Soundness.{DeadListed}
use Rattle.sp_node.specs.Among.{Among}

-- the numbers stand by ascending order
abbrev pub Rises : List ℕ → Type 0
Rises [] = Unit {0}
Rises (n ∷ ns) = AllByRecursion (λ m. n ≤ m) ns × Rises ns

-- the list has the dead of before, and from a place on those that died since, by ascending number
pub record IsTail (dead : List ℕ) (from : ℕ) (before now : List Entry) : Type 0 where
  pub within : from ≤ length dead
  pub listed : DeadListed (take from dead) before
  pub stay : (n : ℕ) → Among n (dead_among before) → Among n (dead_among now)
  pub tail : drop from dead ≡ newly_dead before now
