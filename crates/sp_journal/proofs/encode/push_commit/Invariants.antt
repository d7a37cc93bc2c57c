use Rattle.std.proofs.Common.{◌≡◌, ◌++◌, length, take}
use Rattle.std.specs.List.{flat_map}
use Rattle.sp_journal.specs.Format.{u32_bytes, change_bytes, AllChanges}
use Rattle.sp_journal.proofs.encode.push_commit.Given as goal

abbrev pub invariant-loop-change : goal.invariant-loop-change
invariant-loop-change l = record {
  bytes : l.out.items ≡ l.fn.out.items ++ (u32_bytes (length l.changes) ++ flat_map change_bytes (take l.change-index l.change-items));
  valid : AllChanges (take l.change-index l.change-items);
}
