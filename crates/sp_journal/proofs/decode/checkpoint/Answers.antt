use Rattle.std.proofs.Common.{◌≡◌, ◌++◌, [], length, ◌∙◌, arith, rules}
use Rattle.std.specs.List.{flat_map}
use Rattle.sp_journal.specs.declared.decode.Unread.TheVariants.{Memory}
use Rattle.sp_journal.specs.Format.{u32_bytes, put_bytes}
use Rattle.sp_journal.proofs.Readers.{no_err, ok_same}
use Rattle.sp_journal.proofs.Pages.{checkpoint_parts}
use Rattle.sp_journal.proofs.decode.checkpoint.Goals as goal

pub returns-in_err-_zero : goal.returns-in_err-_zero
returns-in_err-_zero c = λ rs whole is.
    no_err _ _ _ _ (c.u32.ensures 0 (u32_bytes (length rs) ++ (flat_map put_bytes rs ++ [])) (omega arith) (checkpoint_parts rs _ (c.new-from.ensures ∙ is))).0 c.in_err-_zero.was

pub returns-in_err-count : goal.returns-in_err-count
returns-in_err-count c = λ rs whole is.
    let first = c.u32.ensures 0 (u32_bytes (length rs) ++ (flat_map put_bytes rs ++ [])) (omega arith) (checkpoint_parts rs _ (c.new-from.ensures ∙ is)) in
    no_err _ _ _ _ (c.u32-2.ensures (length rs) (flat_map put_bytes rs ++ []) (omega (arith, whole.count)) first.1).0 c.in_err-count.was

pub returns-in_err-records : goal.returns-in_err-records
returns-in_err-records c = λ rs whole is.
    let first = c.u32.ensures 0 (u32_bytes (length rs) ++ (flat_map put_bytes rs ++ [])) (omega arith) (checkpoint_parts rs _ (c.new-from.ensures ∙ is)) in
    let count = c.u32-2.ensures (length rs) (flat_map put_bytes rs ++ []) (omega (arith, whole.count)) first.1 in
    let none : c.in_err-records.field-0.0 ≡ Memory = c.in_err-records.ensures rs [] whole.each (ok_same _ _ _ count.0 c.in_ok-count.was) count.1 in
    search rules

pub returns : goal.returns
returns c = λ rs whole is.
    let first = c.u32.ensures 0 (u32_bytes (length rs) ++ (flat_map put_bytes rs ++ [])) (omega arith) (checkpoint_parts rs _ (c.new-from.ensures ∙ is)) in
    let count = c.u32-2.ensures (length rs) (flat_map put_bytes rs ++ []) (omega (arith, whole.count)) first.1 in
    (c.in_ok-records.ensures rs [] whole.each (ok_same _ _ _ count.0 c.in_ok-count.was) count.1).0
