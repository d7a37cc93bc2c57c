use Rattle.std.proofs.Common.{◌≡◌, ◌++◌, [], length, ◌∙◌, rules}
use Rattle.std.specs.List.{flat_map}
use Rattle.sp_journal.specs.declared.decode.Unread.TheVariants.{Memory}
use Rattle.sp_journal.specs.Format.{commit_bytes}
use Rattle.sp_journal.proofs.Readers.{no_err, ok_same, batch_parts}
use Rattle.sp_journal.proofs.decode.batch.Goals as goal

pub returns-in_err-count : goal.returns-in_err-count
returns-in_err-count c = λ q whole is. no_err _ _ _ _ (c.u32.ensures (length q) (flat_map commit_bytes q ++ []) whole.count (batch_parts q _ (c.new-from.ensures ∙ is))).0 c.in_err-count.was

pub returns-in_err-commits : goal.returns-in_err-commits
returns-in_err-commits c = λ q whole is.
    let count = c.u32.ensures (length q) (flat_map commit_bytes q ++ []) whole.count (batch_parts q _ (c.new-from.ensures ∙ is)) in
    let none : c.in_err-commits.field-0.0 ≡ Memory = c.in_err-commits.ensures q [] whole.each (ok_same _ _ _ count.0 c.in_ok-count.was) count.1 in
    search rules

pub returns : goal.returns
returns c = λ q whole is.
    let count = c.u32.ensures (length q) (flat_map commit_bytes q ++ []) whole.count (batch_parts q _ (c.new-from.ensures ∙ is)) in
    (c.in_ok-commits.ensures q [] whole.each (ok_same _ _ _ count.0 c.in_ok-count.was) count.1).0
