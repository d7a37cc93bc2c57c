use Rattle.std.proofs.Common.{◌≡◌, ◌≤◌, length, take, Some}
use Rattle.sp_plain.specs.Taking.{most_records, taken}
use Rattle.sp_journal.specs.Recovery.{all_changes}
use Rattle.sp_journal.proofs.contents.make_all.Given as goal

abbrev pub invariant-loop-commit : goal.invariant-loop-commit
invariant-loop-commit l = record { made : taken (all_changes (take l.commit-index l.commit-items)) l.fn.store ≡ Some l.store; small : length l.fn.store ≤ most_records → length l.store ≤ most_records }
