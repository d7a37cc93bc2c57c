use Rattle.std.specs.Int.{cast_unsigned}
use Rattle.std.proofs.Common.{w32}
use Rattle.sp_journal.specs.Format.{coordinate_bytes}
use Rattle.sp_journal.proofs.Readers.{no_err, ok_same, word_fits, coordinate_is}
use Rattle.sp_journal.proofs.decode.coordinate.Goals as goal

pub returns-in_err-bits : goal.returns-in_err-bits
unfolding coordinate_bytes
returns-in_err-bits c = λ z rest low high is. no_err _ _ _ _ (c.u32.ensures (cast_unsigned w32 z) rest (word_fits z low high) is).0 c.in_err-bits.was

pub returns : goal.returns
unfolding coordinate_bytes
returns c = λ z rest low high is.
    let read = c.u32.ensures (cast_unsigned w32 z) rest (word_fits z low high) is in
    (coordinate_is _ z c.in_ok-bits.bits c.cast_signed.result c.from.result low high (ok_same _ _ _ c.in_ok-bits.was read.0) c.cast_signed.ensures c.from.ensures, read.1)
