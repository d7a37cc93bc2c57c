use Rattle.std.proofs.Common.{◌≡◌, true, arith, sym, ◌∙◌}
use Rattle.sp_plain.specs.Taking.{can_change, left_by}
use Rattle.sp_plain.proofs.Leading.{taken_more}
use Rattle.sp_plain.proofs.undo.make_each.Goals as goal

pub returns-in_err-make-clause-back : goal.returns-in_err-make-clause-back
returns-in_err-make-clause-back c = c.in_err-make.ensures.back c.args.records.now.items c.loop-change.invariant.3

pub returns-then-not-branch-clause-back : goal.returns-then-not-branch-clause-back
returns-then-not-branch-clause-back c = c.in_ok-make.ensures.back c.args.records.now.items c.loop-change.invariant.3

pub loop-change-preserved : goal.loop-change-preserved
loop-change-preserved c =
    let made : true ≡ can_change c.change-item.result c.loop-change.records.items = sym c.if-not-branch.false ∙ c.in_ok-make.ensures.can in
    let after : c.make.new.records.items ≡ left_by c.change-item.result c.loop-change.records.items = rw c.if-not-branch.false at c.in_ok-make.ensures.after in (
      c.in_ok-make.ensures.ordered,
      omega arith,
      c.in_ok-make.ensures.room ∙ c.loop-change.invariant.2,
      c.in_ok-make.ensures.back c.args.records.now.items c.loop-change.invariant.3,
      c.loop-change.invariant.4 ∙ taken_more c.args.changes.now c.loop-change.change-index c.change-item.result c.loop-change.records.items c.make.new.records.items (omega arith) c.change-item.is made after,
    )
