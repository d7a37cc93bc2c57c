use Rattle.std.proofs.Common.{◌≡◌, length}
use Rattle.sp_bench_journal.proofs.work.puts.Given as goal

abbrev pub invariant-loop-i : goal.invariant-loop-i
invariant-loop-i l = length l.changes ≡ l.i
