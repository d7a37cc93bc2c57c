use Rattle.std.proofs.Common.{◌≡◌, ◌<◌, ◌++◌, ℕ, length, take, get_or}
use Rattle.std.specs.List.{flat_map}
use Rattle.sp_rect.specs.declared.record.Record.{Record}
use Rattle.sp_journal.specs.Format.{u32_bytes, put_bytes, IsPut}
use Rattle.sp_journal.proofs.encode.checkpoint.Given as goal

abbrev pub invariant-loop-member : goal.invariant-loop-member
invariant-loop-member l = record {
  bytes : l.out.items ≡ (u32_bytes 0 ++ u32_bytes (length l.records)) ++ flat_map put_bytes (take l.member-index l.member-items);
  valid : (k : ℕ) (d : Record) → k < l.member-index → IsPut (get_or l.member-items k d);
}
