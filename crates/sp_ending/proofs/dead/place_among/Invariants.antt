use Rattle.std.proofs.Common.{◌-◌, ◌≤◌, ℕ, length, drop, List}
use Rattle.std.specs.List.{AllByRecursion}
use Rattle.sp_ending.proofs.dead.place_among.Given as goal

-- the place is within, and all from it on are at least the number
pub record Behind (from number at : ℕ) (items : List ℕ) : Type 0 where
  pub low : from ≤ at
  pub high : at ≤ length items
  pub least : AllByRecursion (λ m. number ≤ m) (drop at items)

abbrev pub invariant-back : goal.invariant-back
invariant-back l = Behind l.from l.number l.at l.dead.items

abbrev pub decreases-back : goal.decreases-back
decreases-back l = l.at - l.from
