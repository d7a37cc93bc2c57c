use Rattle.std.proofs.Common.{◌+◌, ◌<◌, ℕ, length, get_or}
use Rattle.sp_rect.specs.declared.record.Record.{Record}
use Rattle.sp_journal.proofs.payload.ascend.Given as goal

abbrev pub invariant-loop-i : goal.invariant-loop-i
invariant-loop-i l = (k : ℕ) (d : Record) → k + 1 < l.i → k + 1 < length l.records → (get_or l.records k d).id < (get_or l.records (k + 1) d).id
