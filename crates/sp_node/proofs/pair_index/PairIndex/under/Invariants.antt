use Rattle.std.proofs.Common.{◌≡◌, ◌++◌, map}
use Rattle.sp_node.proofs.pair_index.PairIndex.under.Given as goal

-- what is found, and what is left to pass
abbrev pub invariant-loop-number : goal.invariant-loop-number
invariant-loop-number l = l.found.items ++ map (λ p. p.1) l.number-iterator ≡ map (λ p. p.1) l.initial.number-iterator
