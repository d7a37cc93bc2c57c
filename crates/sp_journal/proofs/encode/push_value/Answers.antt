use Rattle.std.proofs.Common.{ap, length, arith}
use Rattle.sp_journal.proofs.Chunks.{value_short}
use Rattle.sp_journal.proofs.encode.push_value.Goals as goal

pub overflow_cast-bytes : goal.overflow_cast-bytes
overflow_cast-bytes c = omega (arith, value_short c.args.value.now c.bytes-bytes.ensures.valid, ap length c.bytes-bytes.ensures.bytes)
