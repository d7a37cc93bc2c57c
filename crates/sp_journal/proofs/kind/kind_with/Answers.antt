use Rattle.std.proofs.Common.{inl, inr}
use Rattle.sp_journal.proofs.Heads.{is_unfinished, is_settled}
use Rattle.sp_journal.proofs.kind.kind_with.Goals as goal
use Rattle.sp_journal.proofs.kind.kind_with.Goals.{else-header-ge2-via-then-header-ge2+else-gate-ne1, else-header-ge2-via-else-header-ge2}

pub returns-then-gate-ne1 : goal.returns-then-gate-ne1
returns-then-gate-ne1 c = λ file tail long is stands. is_unfinished c.args.header.version c.args.header.generation c.args.gate tail file long is c.if-header-ge2.true c.if-gate-ne1.true stands

pub returns-else-header-ge2 : goal.returns-else-header-ge2
returns-else-header-ge2 c = λ file tail long is stands. is_settled c.args.header.version c.args.header.generation c.args.gate tail file long is
    (elim c.else-header-ge2.branch [
      | else-header-ge2-via-then-header-ge2+else-gate-ne1 w ↦ inr w.if-gate-ne1.false
      | else-header-ge2-via-else-header-ge2 w ↦ inl w.if-header-ge2.false
    ]) stands
