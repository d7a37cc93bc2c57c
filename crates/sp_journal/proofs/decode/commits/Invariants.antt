use Rattle.std.proofs.Common.{◌≡◌, ◌++◌, ℕ, List, length, take, drop}
use Rattle.std.specs.List.{flat_map}
use Rattle.sp_plain.specs.declared.change.Change.{Change}
use Rattle.sp_journal.specs.Format.{commit_bytes, AllCommits}
use Rattle.sp_journal.proofs.decode.commits.Given as goal

abbrev pub invariant-loop-i : goal.invariant-loop-i
invariant-loop-i l = (cs : List (List Change)) (rest : List ℕ) → AllCommits cs → length cs ≡ l.count → l.fn.from ≡ flat_map commit_bytes cs ++ rest
    → (l.read ≡ take l.i cs) × (l.from ≡ flat_map commit_bytes (drop l.i cs) ++ rest)
