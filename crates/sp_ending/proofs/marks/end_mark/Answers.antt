use Rattle.std.proofs.Common.{◌∙◌, ap, sym}
use Rattle.sp_node.specs.Change.{at_number, table_with}
use Rattle.sp_ending.specs.declared.marks.Ending.{Ending}
use Rattle.sp_ending.specs.Ends.{ended}
use Rattle.sp_ending.proofs.marks.end_mark.Goals as goal

pub returns-in-Commit : goal.returns-in-Commit
unfolding ended
returns-in-Commit c = c.settle.ensures.table ∙ ap (λ (k : Ending). table_with (at_number c.args.number (ended k c.args.txn)) c.args.tree.now.table) (sym c.in-Commit.is)

pub returns-in-Rollback : goal.returns-in-Rollback
unfolding ended
returns-in-Rollback c = c.undo.ensures.table ∙ ap (λ (k : Ending). table_with (at_number c.args.number (ended k c.args.txn)) c.args.tree.now.table) (sym c.in-Rollback.is)
