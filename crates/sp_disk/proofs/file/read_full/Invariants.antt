use Rattle.std.proofs.Common.{◌≤◌, length}
use Rattle.sp_disk.proofs.file.read_full.Given as goal

abbrev pub invariant-loop : goal.invariant-loop
invariant-loop l = l.count ≤ length l.buf
