use Rattle.std.proofs.Common.{◌≡◌, ◌++◌, ℕ, List, length, take, drop}
use Rattle.std.specs.List.{flat_map}
use Rattle.sp_plain.specs.declared.change.Change.{Change}
use Rattle.sp_journal.specs.Format.{change_bytes, AllChanges}
use Rattle.sp_journal.proofs.decode.changes.Given as goal

abbrev pub invariant-loop-i : goal.invariant-loop-i
invariant-loop-i l = (cs : List Change) (rest : List ℕ) → AllChanges cs → length cs ≡ l.count → l.fn.from ≡ flat_map change_bytes cs ++ rest
    → (l.read ≡ take l.i cs) × (l.from ≡ flat_map change_bytes (drop l.i cs) ++ rest)
