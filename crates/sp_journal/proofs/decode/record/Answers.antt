use Rattle.std.proofs.Common.{◌≡◌, ◌++◌, rules}
use Rattle.sp_journal.specs.Format.{u64_bytes, rect_bytes, value_bytes}
use Rattle.sp_journal.proofs.Readers.{no_err, ok_same}
use Rattle.sp_journal.proofs.Pages.{put_parts}
use Rattle.sp_journal.proofs.decode.record.Goals as goal

pub returns-in_err-u8 : goal.returns-in_err-u8
returns-in_err-u8 c = λ r rest valid is. no_err _ _ _ _ (c.u8.ensures 1 (u64_bytes r.id ++ (rect_bytes r.rect ++ (value_bytes r.value ++ rest))) (put_parts r rest c.args.from.now is)).0 c.in_err-u8.was

pub returns-in-1 : goal.returns-in-1
returns-in-1 c = λ r rest valid is.
    let read = c.u8.ensures 1 (u64_bytes r.id ++ (rect_bytes r.rect ++ (value_bytes r.value ++ rest))) (put_parts r rest c.args.from.now is) in
    c.put.ensures r rest valid read.1

pub returns-in_default : goal.returns-in_default
returns-in_default c = λ r rest valid is.
    let read = c.u8.ensures 1 (u64_bytes r.id ++ (rect_bytes r.rect ++ (value_bytes r.value ++ rest))) (put_parts r rest c.args.from.now is) in
    let one : c.in_ok-u8.field-0 ≡ 1 = ok_same _ _ _ c.in_ok-u8.was read.0 in
    absurd (search rules)
