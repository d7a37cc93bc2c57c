use Rattle.std.proofs.Common.{◌++◌, length, ◌∙◌}
use Rattle.sp_journal.specs.Format.{value_bytes}
use Rattle.sp_journal.proofs.Readers.{no_err, ok_same, bad_value}
use Rattle.sp_journal.proofs.decode.value.Goals as goal

pub returns-in_err-len : goal.returns-in_err-len
unfolding value_bytes
returns-in_err-len c = λ v rest fits is. no_err _ _ _ _ (c.u8.ensures (length v) (v ++ rest) is).0 c.in_err-len.was

pub returns-in_err-bytes : goal.returns-in_err-bytes
unfolding value_bytes
returns-in_err-bytes c = λ v rest fits is.
    let len = c.u8.ensures (length v) (v ++ rest) is in
    absurd (c.in_err-bytes.ensures v rest (ok_same _ _ _ len.0 c.in_ok-len.was) len.1)

pub returns-in-Ok : goal.returns-in-Ok
unfolding value_bytes
returns-in-Ok c = λ v rest fits is.
    let len = c.u8.ensures (length v) (v ++ rest) is in
    let got = c.in_ok-bytes.ensures v rest (ok_same _ _ _ len.0 c.in_ok-len.was) len.1 in
    (c.in-Ok.ensures.ok ∙ got.0, got.1)

pub returns-in-Err : goal.returns-in-Err
unfolding value_bytes
returns-in-Err c = λ v rest fits is.
    let len = c.u8.ensures (length v) (v ++ rest) is in
    let got = c.in_ok-bytes.ensures v rest (ok_same _ _ _ len.0 c.in_ok-len.was) len.1 in
    bad_value v _ _ fits got.0 (c.in-Err.ensures.bad)
