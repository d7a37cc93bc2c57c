use Rattle.std.proofs.Common.{◌≡◌, ◌++◌, length, take}
use Rattle.std.specs.List.{flat_map}
use Rattle.sp_journal.specs.Format.{u32_bytes, commit_bytes, AllCommits}
use Rattle.sp_journal.proofs.encode.batch.Given as goal

abbrev pub invariant-loop-commit : goal.invariant-loop-commit
invariant-loop-commit l = record {
  bytes : l.out.items ≡ u32_bytes (length l.commits) ++ flat_map commit_bytes (take l.commit-index l.commit-items);
  valid : AllCommits (take l.commit-index l.commit-items);
}
