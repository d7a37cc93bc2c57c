use Rattle.std.proofs.Common.{◌∙◌}
use Rattle.sp_apply.proofs.EachMark.{noted_more}
use Rattle.sp_apply.proofs.marking.note_all.Goals as goal

pub marks-preserved : goal.marks-preserved
marks-preserved c = record {
  table = c.in_ok-note_marks.ensures.table ∙ c.marks.invariant.table;
  noted = noted_more c.marks.tree.noted c.note_marks.new.self.noted c.args.marks.now c.marks.mark-index c.mark-item.result c.marks-test.true c.mark-item.is c.in_ok-note_marks.ensures.kept c.marks.invariant.noted c.in_ok-note_marks.ensures.ok;
}
