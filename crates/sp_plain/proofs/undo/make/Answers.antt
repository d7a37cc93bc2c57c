use Rattle.std.proofs.Common.{◌≡◌, true, sym}
use Rattle.sp_plain.specs.Taking.{can_change, left_by}
use Rattle.sp_plain.proofs.Leading.{leads_still, leads_on, ordered_changed}
use Rattle.sp_plain.proofs.undo.make.Goals as goal

pub returns-in_err-back-clause-back : goal.returns-in_err-back-clause-back
returns-in_err-back-clause-back c = λ old l. rw c.in_err-back.ensures.err (leads_still _ _ c.in_err-back.ensures.room _ _ _ l)

pub returns-in-None-clause-back : goal.returns-in-None-clause-back
returns-in-None-clause-back c = λ old l.
    let same : c.change_one.new.records.items ≡ c.args.records.now.items = rw c.in-None.is at c.in_ok-back.ensures.after in
    rw same (leads_still _ _ c.in_ok-back.ensures.room _ _ _ l)

pub returns-in-Some-clause-back : goal.returns-in-Some-clause-back
returns-in-Some-clause-back c = λ old l.
    rw c.push_reserved.ensures.items (leads_on _ _ c.in_ok-back.ensures.room c.in-Some.back c.args.undo.now.items _ _ old (rw c.in-Some.is at c.in_ok-back.ensures.back) l)

pub returns-in-Some-clause-ordered : goal.returns-in-Some-clause-ordered
returns-in-Some-clause-ordered c =
    let can : true ≡ can_change c.args.change.now c.args.records.now.items = rw c.in-Some.is at c.in_ok-back.ensures.can in
    let after : c.change_one.new.records.items ≡ left_by c.args.change.now c.args.records.now.items = rw c.in-Some.is at c.in_ok-back.ensures.after in
    rw after (ordered_changed c.args.change.now c.args.records.now.items (sym can) c.requires.ordered)
