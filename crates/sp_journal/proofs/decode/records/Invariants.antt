use Rattle.std.proofs.Common.{◌≡◌, ◌<◌, ◌++◌, ℕ, List, length, take, drop, get_or}
use Rattle.std.specs.List.{flat_map}
use Rattle.sp_rect.specs.declared.record.Record.{Record}
use Rattle.sp_journal.specs.Format.{put_bytes, IsPut}
use Rattle.sp_journal.proofs.decode.records.Given as goal

abbrev pub invariant-loop-i : goal.invariant-loop-i
invariant-loop-i l = (rs : List Record) (rest : List ℕ) → ((k : ℕ) (d : Record) → k < length rs → IsPut (get_or rs k d)) → length rs ≡ l.count → l.fn.from ≡ flat_map put_bytes rs ++ rest
    → (l.read ≡ take l.i rs) × (l.from ≡ flat_map put_bytes (drop l.i rs) ++ rest)
