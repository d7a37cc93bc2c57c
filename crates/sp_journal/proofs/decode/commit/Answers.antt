use Rattle.std.proofs.Common.{◌≡◌, ◌++◌, length, rules}
use Rattle.std.specs.List.{flat_map}
use Rattle.sp_journal.specs.declared.decode.Unread.TheVariants.{Memory}
use Rattle.sp_journal.specs.Format.{change_bytes}
use Rattle.sp_journal.proofs.Readers.{no_err, ok_same, commit_parts}
use Rattle.sp_journal.proofs.decode.commit.Goals as goal

pub returns-in_err-count : goal.returns-in_err-count
returns-in_err-count c = λ cs rest whole is. no_err _ _ _ _ (c.u32.ensures (length cs) (flat_map change_bytes cs ++ rest) whole.count (commit_parts cs rest c.args.from.now is)).0 c.in_err-count.was

pub returns-in_err-changes : goal.returns-in_err-changes
returns-in_err-changes c = λ cs rest whole is.
    let count = c.u32.ensures (length cs) (flat_map change_bytes cs ++ rest) whole.count (commit_parts cs rest c.args.from.now is) in
    let none : c.in_err-changes.field-0.0 ≡ Memory = c.in_err-changes.ensures cs rest whole.each (ok_same _ _ _ count.0 c.in_ok-count.was) count.1 in
    search rules

pub returns : goal.returns
returns c = λ cs rest whole is.
    let count = c.u32.ensures (length cs) (flat_map change_bytes cs ++ rest) whole.count (commit_parts cs rest c.args.from.now is) in
    c.in_ok-changes.ensures cs rest whole.each (ok_same _ _ _ count.0 c.in_ok-count.was) count.1
