use Rattle.std.proofs.Common.{◌∙◌}
use Rattle.sp_ending.proofs.Turns.{all_ended}
use Rattle.sp_ending.proofs.marks.end_marks.Goals as goal

pub returns-then-not-end_next-clause-table : goal.returns-then-not-end_next-clause-table
returns-then-not-end_next-clause-table c =
    let last = c.if-not-end_next.ensures in
    let turns = c.marked.invariant.0 in
    last.same.0 ∙ all_ended c.args.ending c.args.txn c.marked.tree.table last.valid turns.clean last.none ∙ turns.rest
