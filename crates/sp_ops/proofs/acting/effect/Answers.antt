use Rattle.std.proofs.Common.{ℕ, List, [], map, if◌then◌else◌, ap, sym, ◌∙◌, subst}
use Rattle.sp_rect.specs.Store.{part_of, within}
use Rattle.sp_node.specs.Table.{entries_of}
use Rattle.sp_txn.specs.Visible.{view}
use Rattle.sp_ops.specs.Seen.{entries_at, AreRecordsAt}
use Rattle.sp_ops.specs.Effect.{mark_of}
use Rattle.sp_protection.specs.Effects.{is_marking}
use Rattle.sp_ops.proofs.Seeing.{records_of_part, marks_of_part}
use Rattle.sp_ops.proofs.acting.effect.Goals as goal

pub returns-clause-reply : goal.returns-clause-reply
returns-clause-reply c =
    let found = within (part_of c.args.op.now) (view (entries_of c.args.tree.now.table) c.args.txn) in
    c.in_ok-reply.ensures found
    (subst (λ (ns : List ℕ). AreRecordsAt c.args.tree.now.table.nodes c.args.txn ns found) (sym c.as_slice.ensures) (records_of_part c.args.tree.now.table c.root-valid.ensures.valid c.args.txn (part_of c.args.op.now) c.in_ok-numbers.numbers c.in_ok-numbers.ensures.found c.requires))

pub returns-clause-marks : goal.returns-clause-marks
returns-clause-marks c =
    marks_of_part c.args.tree.now.table c.root-valid.ensures.valid c.args.txn c.args.op.now c.in_ok-numbers.numbers c.in_ok-numbers.ensures.found c.in_ok-numbers.ensures.ascending c.in_ok-marks.marks
    (c.in_ok-marks.ensures ∙ ap (λ (ns : List ℕ). if is_marking c.args.op.now then map (mark_of c.args.txn c.args.op.now) (entries_at c.args.tree.now.table.nodes ns) else []) c.as_slice-2.ensures)
